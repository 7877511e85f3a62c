-- What a scan's entries of one tile are: at each an SOT with Lsot 10 and the tile's index stands whole, so the rows of the entries are read back as
-- those entries, and their ranges are kept.
use Prim.Native.Nat.{ℕ, ◌+◌, ◌≤◌}
use native.Mathlib.Omega.{arith}
use mathlib.Core.Path.{◌≡◌, refl, sym, ap, ◌∙◌}
use mathlib.Core.Bool.{Bool, true, false}
use mathlib.Core.List.{List, ◌∷◌, map}
use lib.ListN.{length, take, drop}
use lib.Dec.{eqb}
use borrow.Author.Tests.{eqb-true, eqb-false}
use Rattle.std.specs.Prelude.{Option}
use Rattle.numbers.proofs.BytesLaws.{be_bound}
use Rattle.types.specs.Refusals.{refusal}
use Rattle.types.specs.Row.{rows_of, records_in}
use Rattle.types.proofs.RowLaws.{Fits}
use Rattle.types.proofs.RowReading.{All, none, more, all_map}
use Rattle.types.proofs.RowReading as rows
use Rattle.types.specs.declared.TilePartEntry.{TilePartEntry}
use Rattle.chain.specs.Chain.{on, Visit, Run, stay, step}
use Rattle.chain.proofs.ChainLaws.{chain_run, end_on}
use Rattle.parts.specs.Sot.{lsot, isot}
use Rattle.parts.specs.Scan.{ended, refused, move_of, move_at, scan_from, recorded, entries_from}
use Rattle.parts.specs.Tiles.{of_tile, bytes_at}
use Rattle.numbers.proofs.Choice.{by_test}
use Rattle.parts.proofs.ScanLaws.{Stands, move_passed, rises, sot_lsot, sot_no_eoc, step_sot}
use Rattle.tile.specs.Assembly.{and_part, parts_in}
use Rattle.tile.proofs.AssemblyRanges.{part_kept}
use Rattle.laws.specs.Demand3.{AllBytes}
use Rattle.types.specs.declared.Reason.TheVariants.{SotLengthWrong}

-- ---- a scan's entries

pub record OfTile (s : List ℕ) (tile : ℕ) (e : TilePartEntry) : Type 0 where
  pub stands : Stands s e.offset.0 e
  pub lsot : lsot s e.offset.0 ≡ 10
  pub isot : isot s e.offset.0 ≡ tile

-- the scan moves on only where Lsot is 10
passed_lsot : (s : List ℕ) (at next : ℕ) → move_at s at ≡ on next → lsot s at ≡ 10
unfolding move_at move_of
passed_lsot s at next found = by (eqb (lsot s at) 10) refl
  where
    by : (b : Bool) → eqb (lsot s at) 10 ≡ b → lsot s at ≡ 10
    by true e = eqb-true _ _ e
    by false e =
        let stands = (move_passed s at next found).stands in
        let room = stands.room in
        let eight = step_sot s at (omega arith) (sot_no_eoc s at stands.marker) room stands.marker ∙ sot_lsot s at (eqb-false _ _ e) in
        absurd (end_on {a = refused (refusal SotLengthWrong at)} (sym (ap move_of eight) ∙ found))

one_more : (s : List ℕ) (tile at : ℕ) {next : ℕ} (visits : List Visit) → move_at s at ≡ on next
    → All (OfTile s tile) (of_tile tile (map (recorded s) visits)) → All (OfTile s tile) (of_tile tile (map (recorded s) (record { at = at; next = next } ∷ visits)))
unfolding of_tile
one_more s tile at {next} visits found rest =
    by_test (All (OfTile s tile)) (eqb (isot s at) tile)
    (λ e. more (record { stands = (move_passed s at next found).stands; lsot = passed_lsot s at next found; isot = eqb-true _ _ e }) rest)
    (λ _. rest)

run_entries : (s : List ℕ) (tile : ℕ) {at stop : ℕ} {visits : List Visit} → Run (move_at s) at visits stop
    → All (OfTile s tile) (of_tile tile (map (recorded s) visits))
unfolding of_tile
run_entries s tile stay = none
run_entries s tile (step {at = at} {rest = visits} found past rest) = one_more s tile at visits found (run_entries s tile rest)

pub entries_of_tile : (s : List ℕ) (p tile : ℕ) → All (OfTile s tile) (of_tile tile (entries_from s p))
unfolding entries_from scan_from
entries_of_tile s p tile = run_entries s tile (chain_run ended (move_at s) (length s) (rises s) p)

-- ---- their rows

entry_fits : (s : List ℕ) (tile : ℕ) → AllBytes s → length s ≤ 0xffff_ffff → (e : TilePartEntry) → OfTile s tile e → Fits e
entry_fits s tile bytes short e o =
    let inside = o.stands.inside in
    let index : e.tile_index ≡ isot s e.offset.0 = ap (λ (x : TilePartEntry). x.tile_index) o.stands.entry in
    record {
      index = omega (arith, be_bound 2 s (e.offset.0 + 4) bytes);
      offset = omega arith;
      length = omega arith;
    }

run_fits : (s : List ℕ) → AllBytes s → length s ≤ 0xffff_ffff → {at stop : ℕ} {visits : List Visit} → Run (move_at s) at visits stop → All Fits (map (recorded s) visits)
run_fits s bytes short stay = none
run_fits s bytes short (step {at = at} {next = next} found past rest) =
    let o : OfTile s (isot s at) (recorded s (record { at = at; next = next })) =
    record { stands = (move_passed s at next found).stands; lsot = passed_lsot s at next found; isot = refl } in
    more (entry_fits s (isot s at) bytes short (recorded s (record { at = at; next = next })) o) (run_fits s bytes short rest)

-- all of them
pub entries_fit : (s : List ℕ) (p : ℕ) → AllBytes s → length s ≤ 0xffff_ffff → All Fits (entries_from s p)
unfolding entries_from scan_from
entries_fit s p bytes short = run_fits s bytes short (chain_run ended (move_at s) (length s) (rises s) p)

-- the rows of entries, read back
pub records_back : (s : List ℕ) (tile : ℕ) → AllBytes s → length s ≤ 0xffff_ffff → {es : List TilePartEntry} → All (OfTile s tile) es → records_in (rows_of es) ≡ es
records_back s tile bytes short all = rows.records_back (all_map (entry_fits s tile bytes short) all)

-- ---- their ranges

-- none is dropped
pub parts_in_lem : (s : List ℕ) (tile : ℕ) {es : List TilePartEntry} → All (OfTile s tile) es → parts_in s es ≡ map (bytes_at s) es
unfolding parts_in and_part bytes_at
parts_in_lem s tile none = refl
parts_in_lem s tile (more {e = e} {rest = rest} o all) =
    ap (λ (p : Option (List ℕ)). and_part p (parts_in s rest)) (part_kept s e o.stands.inside)
    ∙ ap (λ (ps : List (List ℕ)). take e.length (drop e.offset.0 s) ∷ ps) (parts_in_lem s tile all)
