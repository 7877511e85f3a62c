-- The scan over the parts of a tile, joined with Isot 0, and EOC: at each part stand SOT, Lsot 10, Isot 0 and its length in Psot, so the scan passes
-- the parts one by one, and EOC ends it.
use Prim.Native.Nat.{ℕ, suc, ◌+◌, ◌-◌, ◌≤◌, ◌<◌}
use native.Mathlib.Nat.{add-zero}
use native.Mathlib.Omega.{arith}
use mathlib.Core.Path.{◌≡◌, refl, sym, ap, ap₂, ◌∙◌}
use mathlib.Core.Logic.{⊎_elim}
use mathlib.Core.Bool.{true}
use mathlib.Core.List.{List, [], ◌∷◌, ◌++◌, map, append_assoc, append-nil}
use lib.ListN.{length, get_or, length-append, length-take, length-drop}
use borrow.Author.Tests.{le-leb, eq-eqb}
use Rattle.std.specs.Prelude.{Some, Ok}
use Rattle.numbers.specs.Bytes.{be, bytes_of, put}
use Rattle.numbers.proofs.BytesLaws.{be_rest, be_front, be_part, be_put, be_put_before, be_put_after, be_bytes_of, length_bytes}
use Rattle.numbers.proofs.Rows.{be_one}
use Rattle.types.specs.Markers.{SOT, EOC}
use Rattle.types.specs.declared.PartNumbers.TheVariants.{Known}
use Rattle.types.specs.declared.TilePartEntry.{TilePartEntry}
use Rattle.parts.specs.Sot.{lsot, isot, psot, tpsot, tnsot}
use Rattle.parts.specs.Scan.{sot_step_at, scan_step_at, scan_from, judged}
use Rattle.parts.specs.Tiles.{bytes_at, AllLong}
use Rattle.parts.proofs.ScanLaws.{step_sot, sot_no_eoc, sot_rest, sot_part, same_part, Scans, scans_end, scans_part}
use Rattle.parts.proofs.ScanAnswers.{scans_judged}
use Rattle.parts.proofs.Iso.{eoc_ends}
use Rattle.tile.specs.Assembly.{is_sot, patched, joined}
use Rattle.tile.proofs.AssemblyLaws.{patched_sot, length_patched}
use Rattle.types.proofs.RowReading.{All, none, more}
use Rattle.laws.specs.Demand3.{NoPsot0, under_zero}
use Rattle.laws.proofs.Demand3Entries.{OfTile}

-- ---- a part, with Isot 0

module _ (s : List ℕ) (tile : ℕ) (e : TilePartEntry) (o : OfTile s tile e) (long : 12 ≤ e.length) where
  length_bytes_at : length (bytes_at s e) ≡ e.length
  unfolding bytes_at
  length_bytes_at = simp (length-take, length-drop) (omega (arith, o.stands.inside))

  read_part : (k i : ℕ) → i + k ≤ e.length → be k (bytes_at s e) i ≡ be k s (e.offset.0 + i)
  unfolding bytes_at
  read_part k i h = be_part k s e.offset.0 e.length i h

  part_begins : be 2 (bytes_at s e) 0 ≡ SOT
  part_begins = read_part 2 0 (omega arith) ∙ ap (be 2 s) (add-zero e.offset.0) ∙ o.stands.marker

  pub part_tile : be 2 (bytes_at s e) 4 ≡ tile
  part_tile = read_part 2 4 (omega arith) ∙ o.isot

  pub part_is_sot : is_sot (bytes_at s e) ≡ true
  unfolding is_sot
  part_is_sot = rw (le-leb 6 (length (bytes_at s e)) (omega (arith, length_bytes_at)), eq-eqb _ _ part_begins)

  patched_is : patched (bytes_at s e) ≡ put (bytes_at s e) 4 (bytes_of 2 0)
  patched_is = patched_sot (bytes_at s e) part_is_sot

  pub patched_long : length (patched (bytes_at s e)) ≡ e.length
  patched_long = length_patched (bytes_at s e) ∙ length_bytes_at

  pub patched_marker : be 2 (patched (bytes_at s e)) 0 ≡ SOT
  patched_marker = rw patched_is (be_put_before 2 (bytes_at s e) 4 (bytes_of 2 0) 0 (omega (arith, length_bytes_at)) (omega arith) ∙ part_begins)

  patched_lsot : be 2 (patched (bytes_at s e)) 2 ≡ 10
  patched_lsot =
      rw patched_is (be_put_before 2 (bytes_at s e) 4 (bytes_of 2 0) 2 (omega (arith, length_bytes_at)) (omega arith) ∙ read_part 2 2 (omega arith) ∙ o.lsot)

  patched_isot : be 2 (patched (bytes_at s e)) 4 ≡ 0
  patched_isot =
      rw patched_is (be_put 2 (bytes_at s e) 4 (bytes_of 2 0) 0 (omega (arith, length_bytes_at)) (omega (arith, length_bytes 2 0)) ∙ be_bytes_of 2 0 (omega arith))

  patched_psot : be 4 (patched (bytes_at s e)) 6 ≡ psot s e.offset.0
  unfolding bytes_of
  patched_psot =
      rw patched_is (be_put_after 4 (bytes_at s e) 4 (bytes_of 2 0) 0 (omega (arith, length_bytes_at)) ∙ read_part 4 6 (omega arith))

  -- a part's numbers, bytes 10 and 11 of its SOT, stay: Isot alone is patched
  part_byte : (i : ℕ) → i < 12 → get_or (bytes_at s e) i 0 ≡ get_or s (e.offset.0 + i) 0
  part_byte i h = sym (be_one (bytes_at s e) i) ∙ read_part 1 i (omega arith) ∙ be_one s (e.offset.0 + i)

  patched_byte : (i : ℕ) → 6 ≤ i → i < 12 → get_or (patched (bytes_at s e)) i 0 ≡ get_or (bytes_at s e) i 0
  unfolding bytes_of
  patched_byte i from to =
      let there : 4 + (2 + (i - 6)) ≡ i = omega arith in
      rw patched_is
      (sym (be_one (put (bytes_at s e) 4 (bytes_of 2 0)) i)
      ∙ ap (be 1 (put (bytes_at s e) 4 (bytes_of 2 0))) (sym there)
      ∙ be_put_after 1 (bytes_at s e) 4 (bytes_of 2 0) (i - 6) (omega (arith, length_bytes_at))
      ∙ ap (be 1 (bytes_at s e)) there
      ∙ be_one (bytes_at s e) i)

  pub part_numbers : Known (tpsot (bytes_at s e) 0) (tnsot (bytes_at s e) 0) ≡ e.numbers
  part_numbers =
      ap₂ Known (part_byte 10 (omega arith)) (part_byte 11 (omega arith))
      ∙ sym (ap (λ (x : TilePartEntry). x.numbers) o.stands.entry)

  -- ---- behind any front, and with anything after it

  module _ (front y : List ℕ) where
    whole : List ℕ
    whole = front ++ (patched (bytes_at s e) ++ y)

    length_whole : length whole ≡ length front + (e.length + length y)
    unfolding whole
    length_whole = simp length-append (omega (arith, patched_long))

    read_at : (k i : ℕ) → i + k ≤ e.length → be k whole (length front + i) ≡ be k (patched (bytes_at s e)) i
    unfolding whole
    read_at k i h = be_rest k front (patched (bytes_at s e) ++ y) i ∙ be_front k (patched (bytes_at s e)) y i (omega (arith, patched_long))

    read_byte : (i : ℕ) → 6 ≤ i → i < 12 → get_or whole (length front + i) 0 ≡ get_or (bytes_at s e) i 0
    read_byte i from to = sym (be_one whole (length front + i)) ∙ read_at 1 i (omega arith) ∙ be_one (patched (bytes_at s e)) i ∙ patched_byte i from to

    numbers_there : Known (tpsot whole (length front)) (tnsot whole (length front)) ≡ e.numbers
    numbers_there = ap₂ Known (read_byte 10 (omega arith) (omega arith)) (read_byte 11 (omega arith) (omega arith)) ∙ part_numbers

    psot_there : psot whole (length front) ≡ psot s e.offset.0
    psot_there = read_at 4 6 (omega arith) ∙ patched_psot

    isot_there : isot whole (length front) ≡ 0
    isot_there = read_at 2 4 (omega arith) ∙ patched_isot

    lsot_there : lsot whole (length front) ≡ 10
    lsot_there = read_at 2 2 (omega arith) ∙ patched_lsot

    sot_there : scan_step_at whole (length front) ≡ sot_step_at whole (length front)
    sot_there =
        let marker : be 2 whole (length front) ≡ SOT = ap (be 2 whole) (sym (add-zero (length front))) ∙ read_at 2 0 (omega arith) ∙ patched_marker in
        step_sot whole (length front) (omega (arith, length_whole)) (sot_no_eoc whole (length front) marker) (omega (arith, length_whole)) marker

    pub step_there : (psot s e.offset.0 ≡ 0 → ⊥)
        → scan_step_at (front ++ (patched (bytes_at s e) ++ y)) (length front)
        ≡ Ok (Some (record { tile_index = 0; numbers = e.numbers; offset = record { 0 = length front }; length = e.length }))
    unfolding whole
    step_there some =
        let size : psot s e.offset.0 ≡ e.length = ⊎_elim (λ l. l) (λ z. absurd (some z.0)) o.stands.long in
        sot_there
        ∙ sot_part whole (length front) lsot_there (λ z. some (sym psot_there ∙ z)) (omega (arith, psot_there, length_whole))
        ∙ same_part isot_there numbers_there (psot_there ∙ size)

    -- with Psot 0 it takes all that stands after it
    pub step_last : psot s e.offset.0 ≡ 0
        → scan_step_at (front ++ (patched (bytes_at s e) ++ y)) (length front)
        ≡ Ok (Some (record { tile_index = 0; numbers = e.numbers; offset = record { 0 = length front }; length = e.length + length y }))
    unfolding whole
    step_last z =
        sot_there
        ∙ sot_rest whole (length front) lsot_there (psot_there ∙ z)
        ∙ same_part isot_there numbers_there (omega (arith, length_whole))

-- ---- all of them, and EOC

pub rescan : (s : List ℕ) (tile : ℕ) {es : List TilePartEntry} → All (OfTile s tile) es → AllLong es → NoPsot0 s es → (front : List ℕ)
    → Scans (front ++ (joined (map (bytes_at s) es) ++ bytes_of 2 EOC)) (length front) (under_zero (length front) es)
unfolding AllLong NoPsot0 joined under_zero
rescan s tile none long some front = scans_end (front ++ bytes_of 2 EOC) (length front) (rw append-nil at (eoc_ends front []))
rescan s tile (more {e = e} {rest = rest} o all) long some front =
    let part : List ℕ = patched (bytes_at s e) in
    let y : List ℕ = joined (map (bytes_at s) rest) in
    let there : length (front ++ part) ≡ length front + e.length = length-append front part ∙ ap (λ (n : ℕ). length front + n) (patched_long s tile e o long.0) in
    let after = rescan s tile all long.1 some.1 (front ++ part) in
    rw (append_assoc part y (bytes_of 2 EOC))
    (scans_part (front ++ (part ++ (y ++ bytes_of 2 EOC))) (length front) _ _
    (step_there s tile e o long.0 front (y ++ bytes_of 2 EOC) some.0)
    (rw (there, append_assoc front part (y ++ bytes_of 2 EOC)) at after))

length_under : (at : ℕ) (es : List TilePartEntry) → length (under_zero at es) ≡ length es
unfolding under_zero
length_under at [] = refl
length_under at (e ∷ es) = ap suc (length_under (at + e.length) es)

-- so it is accepted
pub scans_table : {a : List ℕ} {at : ℕ} (es : List TilePartEntry) → Scans a at (under_zero at es) → judged (scan_from a at) ≡ Ok (length es)
scans_table {a} {at} es h = scans_judged (length es) h (length_under at es)
