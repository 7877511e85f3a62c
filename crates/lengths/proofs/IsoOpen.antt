-- A last tile-part by the standard with Psot 0 ends before EOC, and the scan's reaches over it: where the standard's table lists the tile-parts, the check
-- differs at the last entry, by EOC's two bytes.
use Prim.Native.Nat.{ℕ, suc, ◌+◌, ◌≤◌}
use native.Mathlib.Nat.{zero-add, add-zero}
use native.Mathlib.Omega.{arith}
use mathlib.Core.Path.{◌≡◌, refl, sym, ap, ap₂, ◌∙◌}
use mathlib.Core.List.{List, [], ◌∷◌, ◌++◌, append_assoc, map}
use lib.ListN.{length, take, drop}
use Rattle.numbers.specs.Bytes.{bytes_of}
use Rattle.numbers.specs.Rows.{bytes_of_rows}
use Rattle.types.specs.Markers.{SOD, EOC}
use Rattle.types.specs.declared.TilePartEntry.{TilePartEntry}
use Rattle.header.specs.Tlm.{Entry, total}
use Rattle.header.specs.Iso.{Segment}
use Rattle.header.specs.IsoTlm.{iso_table, without_index}
use Rattle.header.specs.IsoMain.{Piece, main_header, IsMain, tables}
use Rattle.header.proofs.IsoMain.{up_to_sot}
use Rattle.parts.specs.Scan.{scan_from}
use Rattle.parts.specs.Iso.{TilePart, sot_rows, part_bytes, length_of, Ranges, AllRanges, parts_bytes, listed, listed_from}
use Rattle.parts.proofs.Iso.{scan_standard_last}
use Rattle.lengths.specs.Check.{pair_of, standing, said, differing, compared, behind_scan, checked}
use Rattle.lengths.specs.Iso.{Distinct, part_entries, open_ended}
use Rattle.std.specs.Prelude.{Some}
use Rattle.lengths.proofs.AgreeLaws.{same_self, other_bytes, compared_same, compared_other}
use Rattle.lengths.proofs.IsoCheck.{check_region}

-- what two lists begin with alike is passed
compared_front : (number at : ℕ) (es xs ys : List Entry) → compared number at (es ++ xs) (es ++ ys) ≡ compared (number + length es) (at + total es) xs ys
unfolding total
compared_front number at [] xs ys = ap₂ (λ (n m : ℕ). compared n m xs ys) (sym (add-zero number)) (sym (add-zero at))
compared_front number at (e ∷ es) xs ys =
    let n : number + 1 + length es ≡ number + length (e ∷ es) = omega arith in
    let m : at + e.bytes + total es ≡ at + (e.bytes + total es) = omega arith in
    compared_same number at e e (es ++ xs) (es ++ ys) (same_self e)
    ∙ compared_front (number + 1) (at + e.bytes) es xs ys
    ∙ ap₂ (λ (n m : ℕ). compared n m xs ys) n m

-- what stands behind the marker of the first SOT
open_rest : List TilePart → TilePart → List ℕ
unfolding sot_rows
open_rest [] t = (bytes_of_rows (drop 1 (sot_rows 0 t)) ++ (t.header ++ (bytes_of 2 SOD ++ t.packets))) ++ bytes_of 2 EOC
open_rest (u ∷ us) t =
    ((bytes_of_rows (drop 1 (sot_rows (length_of u) u)) ++ (u.header ++ (bytes_of 2 SOD ++ u.packets))) ++ parts_bytes us) ++ (part_bytes 0 t ++ bytes_of 2 EOC)

from_sot : (g : Segment) (ps : List Piece) (ts : List TilePart) (t : TilePart) → open_ended g ps ts t ≡ up_to_sot g ps (open_rest ts t)
unfolding parts_bytes part_bytes sot_rows bytes_of_rows open_rest
from_sot g ps [] t = simp append_assoc
from_sot g ps (u ∷ us) t = simp append_assoc

-- the last one by its table, and as the scan has it
abbrev last_listed : TilePart → Entry
last_listed t = record { index = t.Isot; bytes = length_of t }

abbrev last_standing : TilePart → Entry
last_standing t = record { index = t.Isot; bytes = length_of t + 2 }

pairs_last : (at : ℕ) (ts : List TilePart) (e : TilePartEntry) → map pair_of (listed_from at ts ++ (e ∷ [])) ≡ part_entries ts ++ (pair_of e ∷ [])
unfolding listed_from part_entries
pairs_last at [] e = refl
pairs_last at (t ∷ more) e = ap (λ (es : List Entry). last_listed t ∷ es) (pairs_last (at + length_of t) more e)

as_many : (ts : List TilePart) → length (part_entries ts) ≡ length ts
unfolding part_entries
as_many [] = refl
as_many (t ∷ more) = ap suc (as_many more)

module _ (g : Segment) (ps : List Piece) (ts : List TilePart) (t : TilePart) (m : IsMain g ps) (inside : AllRanges ts) (last : Ranges 0 t) (region : ℕ)
    (reaches : length (main_header g ps) + 2 ≤ region) (short : length (take region (open_ended g ps ts t)) ≤ 0xffff_ffff) where
  pub open_differs : Distinct (tables ps) → without_index (tables ps) ≤ 65_535 → iso_table (tables ps) ≡ part_entries ts ++ (last_listed t ∷ [])
      → checked (open_ended g ps ts t) region
      ≡ differing (length ts) (length (main_header g ps) + total (part_entries ts)) (Some (record { tile = t.Isot; length = length_of t })) (Some (record { tile = t.Isot; length = length_of t + 2 }))
  unfolding behind_scan standing
  open_differs distinct few table =
      let s : List ℕ = open_ended g ps ts t in
      let at : ℕ = length (main_header g ps) in
      let scan = scan_standard_last (main_header g ps) ts inside t last in
      let sot = from_sot g ps ts t in
      let whole : checked s region ≡ behind_scan (scan_from s at).ended (compared 0 at (iso_table (tables ps)) (standing s at)) =
      rw sot (check_region g ps (open_rest ts t) m region reaches (rw sot at short) distinct few) in
      whole
      ∙ rw (scan.stops, scan.entries, pairs_last at ts (listed (at + length (parts_bytes ts)) (length_of t + 2) t), table)
      (compared_front 0 at (part_entries ts) (last_listed t ∷ []) (last_standing t ∷ [])
      ∙ compared_other _ _ (last_listed t) (last_standing t) [] [] (other_bytes (last_listed t) (last_standing t) (λ e. omega arith))
      ∙ ap (λ (n : ℕ). differing n (at + total (part_entries ts)) (Some (said (last_listed t))) (Some (said (last_standing t)))) (zero-add (length (part_entries ts)) ∙ as_many ts))
