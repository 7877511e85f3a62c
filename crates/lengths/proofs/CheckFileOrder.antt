-- Where Ztlm does not fall from a segment to the next in the file, the table that is compared is the main header's, numbered on; and where it passes, the main
-- header's records are the scan's, as both have each tile-part begin where the one before ends.
use Prim.Native.Nat.{ℕ, ◌+◌, ◌-◌}
use native.Mathlib.Omega.{arith}
use mathlib.Core.Path.{◌≡◌, refl, sym, ap, ap₂, ◌∙◌}
use mathlib.Core.List.{List, ◌∷◌, map}
use lib.ListN.{length, take}
use Rattle.std.specs.Prelude.{None, Ok}
use Rattle.types.specs.declared.TilePartEntry.{TilePartEntry}
use Rattle.chain.specs.Chain.{Visit, Run, stay, step}
use Rattle.chain.proofs.ChainLaws.{chain_run}
use Rattle.header.specs.Tlm.{placed}
use Rattle.header.specs.Walk.{walk_from}
use Rattle.header.specs.Numbering.{entries_by}
use Rattle.header.specs.Parse.{table_by}
use Rattle.header.specs.declared.numbering.Numbering.TheVariants.{CarriedOn}
use Rattle.header.proofs.ParseLaws.{judged_read}
use Rattle.parts.specs.Scan.{ended, move_at, scan_from, recorded, entries_from}
use Rattle.parts.proofs.ScanLaws.{rises}
use Rattle.lengths.specs.Segments.{tlms_of, NotFalling}
use Rattle.lengths.specs.Check.{pair_of, listed, standing, checked, Compares, unnumbered}
use Rattle.lengths.proofs.SegmentsLaws.{ordered_same, entries_of_tlms}
use Rattle.lengths.proofs.CheckVerdict.{passes_only}

pub listed_in_file_order : (h : List ℕ) → NotFalling h (tlms_of h) → listed h ≡ entries_by CarriedOn h 0 (walk_from h 2).visits
unfolding listed
listed_in_file_order h order = ap (entries_by CarriedOn h 0) (ordered_same h (tlms_of h) order) ∙ entries_of_tlms CarriedOn h 0 (walk_from h 2).visits

-- entries that are the scan's, placed from its start on, are its records
placed_run : (s : List ℕ) {at stop : ℕ} {visits : List Visit} → Run (move_at s) at visits stop
    → placed at (map pair_of (map (recorded s) visits)) ≡ map unnumbered (map (recorded s) visits)
unfolding placed
placed_run s stay = refl
placed_run s (step {at = at} {next = next} {rest = rest} found past more) =
    let there : at + (next - at) ≡ next = omega arith in
    ap (λ (es : List TilePartEntry). unnumbered (recorded s (record { at = at; next = next })) ∷ es)
    (ap (λ (n : ℕ). placed n (map pair_of (map (recorded s) rest))) there ∙ placed_run s more)

-- a reader may go by either
pub passes_table : (s : List ℕ) (region : ℕ) → checked s region ≡ Ok None → NotFalling (take region s) (tlms_of (take region s))
    → (p : ℕ) × Compares s region p × (table_by CarriedOn (take region s) ≡ map unnumbered (entries_from s p))
unfolding table_by standing entries_from scan_from
passes_table s region e order =
    let h : List ℕ = take region s in
    let only = passes_only s region e in
    let p = only.0 in
    let c = only.1 in
    let there : (walk_from h 2).stopped ≡ p = sym (judged_read h c.info c.header).first ∙ c.first in
    (p, c, ap₂ placed there (sym (listed_in_file_order h order) ∙ only.2) ∙ placed_run s (chain_run ended (move_at s) (length s) (rises s) p))
