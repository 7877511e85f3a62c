-- The check of a codestream by the standard: behind a main header of its segments the standard's table is compared, and behind its tile-parts the check passes
-- exactly where that table lists them.
use Prim.Native.Nat.{ℕ, ◌+◌, ◌-◌, ◌≤◌}
use native.Mathlib.Omega.{arith}
use mathlib.Core.Path.{◌≡◌, refl, sym, ap, ap₂, ◌∙◌}
use mathlib.Core.Bool.{true}
use mathlib.Core.List.{List, [], ◌∷◌, ◌++◌, append_assoc, map}
use lib.ListN.{length, take, drop, length-append}
use lib.Seq.{take-length, take-append-add}
use lib.Dec.{eqb}
use Rattle.std.specs.Prelude.{None, Ok}
use Rattle.numbers.specs.Bytes.{bytes_of}
use Rattle.numbers.specs.Rows.{bytes_of_rows}
use Rattle.numbers.proofs.BytesLaws.{length_bytes}
use Rattle.numbers.proofs.Choice.{by_bool}
use Rattle.types.specs.Markers.{SOT, SOD, EOC}
use Rattle.header.specs.Tlm.{Entry}
use Rattle.header.specs.Walk.{WalkEnd, at_first_sot, refused, walk_from}
use Rattle.header.specs.Parse.{judged}
use Rattle.header.specs.Iso.{Segment}
use Rattle.header.specs.IsoTlm.{Pointer, TlmSegment, numbered, numbered_on, iso_table, without_index}
use Rattle.header.specs.IsoTlm as iso
use Rattle.header.specs.IsoMain.{Piece, main_header, IsMain, tables}
use Rattle.header.proofs.ParseLaws.{judged_sound}
use Rattle.header.proofs.IsoMain.{front_main, up_to_sot, stopped_main, ended_main}
use Rattle.parts.specs.Scan.{scan_from}
use Rattle.parts.specs.Iso.{TilePart, sot_rows, part_bytes, length_of, AllRanges, parts_bytes, listed_from}
use Rattle.parts.proofs.Iso.{scan_standard}
use Rattle.lengths.specs.Segments.{tlms_of, once, numbers_end}
use Rattle.lengths.specs.Check.{pair_of, standing, compared, behind_scan, behind_table, behind_header, checked}
use Rattle.lengths.specs.Iso.{Distinct, part_entries, codestream}
use Rattle.lengths.proofs.CheckLaws.{behind_sound, repeat_refuses, order_accepts}
use Rattle.lengths.proofs.CheckVerdict.{refused_passes, equal_passes, passes_equal}
use Rattle.lengths.proofs.IsoListed.{listed_standard, once_standard, distinct_standard, numbers_standard, few_standard, count_ordered}

-- ---- the check

-- The header is read of a region that reaches over the marker of the first SOT.
module _ (g : Segment) (ps : List Piece) (rest : List ℕ) (m : IsMain g ps) (region : ℕ) (reaches : length (main_header g ps) + 2 ≤ region)
    (short : length (take region (up_to_sot g ps rest)) ≤ 0xffff_ffff) where
  -- what it has behind that marker
  abbrev left : List ℕ
  left = take (region - (length (main_header g ps) + 2)) rest

  region_read : take region (up_to_sot g ps rest) ≡ up_to_sot g ps left
  region_read =
      let head : List ℕ = main_header g ps ++ bytes_of 2 SOT in
      let n : ℕ = region - (length (main_header g ps) + 2) in
      let far : region ≡ length head + n = simp (length-append, length_bytes) (omega arith) in
      ap₂ take far (sym (append_assoc (main_header g ps) (bytes_of 2 SOT) rest))
      ∙ take-append-add head rest n
      ∙ append_assoc (main_header g ps) (bytes_of 2 SOT) left

  read_sound : checked (up_to_sot g ps rest) region ≡ behind_sound (up_to_sot g ps left) (up_to_sot g ps rest)
  unfolding checked
  read_sound =
      ap (λ (h : List ℕ). behind_header h (up_to_sot g ps rest) (judged h)) region_read
      ∙ ap (behind_header (up_to_sot g ps left) (up_to_sot g ps rest)) (judged_sound _ (front_main g ps (bytes_of 2 SOT ++ left) m (rw region_read at short)))

  -- 32 is not given
  in_order : Distinct (tables ps)
      → checked (up_to_sot g ps rest) region
      ≡ behind_table (up_to_sot g ps left) (up_to_sot g ps rest) (walk_from (up_to_sot g ps left) 2).stopped (numbers_end (up_to_sot g ps left))
  in_order distinct = read_sound ∙ order_accepts _ (up_to_sot g ps rest) (ended_main g ps left m) (once_standard g ps left m distinct)

  -- The check compares the standard's table with what the scan lists behind the header.
  pub check_region : Distinct (tables ps) → without_index (tables ps) ≤ 65_535
      → checked (up_to_sot g ps rest) region
      ≡ behind_scan (scan_from (up_to_sot g ps rest) (length (main_header g ps))).ended
      (compared 0 (length (main_header g ps)) (iso_table (tables ps)) (standing (up_to_sot g ps rest) (length (main_header g ps))))
  unfolding behind_table
  check_region distinct few =
      in_order distinct
      ∙ rw (numbers_standard g ps left m few, stopped_main g ps left m, listed_standard g ps left m)

  -- what passes is refused by neither 32 nor 26
  passes_distinct : checked (up_to_sot g ps rest) region ≡ Ok None → Distinct (tables ps)
  passes_distinct e = by (once (up_to_sot g ps left) [] (tlms_of (up_to_sot g ps left))) refl
    where
      by : (end : WalkEnd) → once (up_to_sot g ps left) [] (tlms_of (up_to_sot g ps left)) ≡ end → Distinct (tables ps)
      by at_first_sot o = distinct_standard g ps left m o
      by (refused r) o = absurd (refused_passes (sym (read_sound ∙ repeat_refuses _ (up_to_sot g ps rest) r (ended_main g ps left m) o) ∙ e))

  passes_few : checked (up_to_sot g ps rest) region ≡ Ok None → without_index (tables ps) ≤ 65_535
  unfolding behind_table
  passes_few e = by (numbers_end (up_to_sot g ps left)) refl
    where
      by : (end : WalkEnd) → numbers_end (up_to_sot g ps left) ≡ end → without_index (tables ps) ≤ 65_535
      by at_first_sot o = few_standard g ps left m o
      by (refused r) o = absurd (refused_passes {r = r} (sym (in_order (passes_distinct e) ∙ rw o) ∙ e))

-- The same where the header is read of the whole codestream.
pub check_standard : (g : Segment) (ps : List Piece) (rest : List ℕ) → IsMain g ps → length (up_to_sot g ps rest) ≤ 0xffff_ffff → Distinct (tables ps)
    → without_index (tables ps) ≤ 65_535
    → checked (up_to_sot g ps rest) (length (up_to_sot g ps rest))
    ≡ behind_scan (scan_from (up_to_sot g ps rest) (length (main_header g ps))).ended
    (compared 0 (length (main_header g ps)) (iso_table (tables ps)) (standing (up_to_sot g ps rest) (length (main_header g ps))))
check_standard g ps rest m short =
    check_region g ps rest m (length (up_to_sot g ps rest)) (simp (length-append, length_bytes) (omega arith)) (rw (take-length (up_to_sot g ps rest)) short)

-- ---- indices of tiles

-- each index is one that a tile can have
Small : List Entry → Type 0
Small [] = Unit {0}
Small (e ∷ more) = (e.index ≤ 65_534) × Small more

small_indexed : (ST k : ℕ) (ps : List Pointer) (more : List Entry) → Small (numbered ST k ps ++ more) → Small more
unfolding Small numbered
small_indexed ST k [] more h = h
small_indexed ST k (p ∷ ps) more h = small_indexed ST (k + 1) ps more h.1

small_numbered : (ST k : ℕ) (ps : List Pointer) (more : List Entry) → eqb ST 0 ≡ true → k ≤ 65_535 → Small (numbered ST k ps ++ more) → k + length ps ≤ 65_535
unfolding Small numbered
small_numbered ST k [] more bare low h = omega arith
small_numbered ST k (p ∷ ps) more bare low h =
    let number : k ≤ 65_534 = rw bare at h.0 in
    let rest = small_numbered ST (k + 1) ps more bare (omega arith) h.1 in
    omega arith

-- entries without an index are numbered on, so a table of such entries has no more than 65,535 of them
small_few : (k : ℕ) (ts : List TlmSegment) → k ≤ 65_535 → Small (numbered_on k ts) → k + without_index ts ≤ 65_535
unfolding numbered_on without_index
small_few k [] low h = omega arith
small_few k (t ∷ more) low h =
    let after = small_indexed t.ST k t.pointers _ h in
    by_bool (eqb t.ST 0)
    (λ e. let counted = small_numbered t.ST k t.pointers _ e low h in
    let rest = small_few (k + length t.pointers) more counted (rw e at after) in rw e (omega arith))
    (λ e. let rest = small_few k more low (rw e at after) in rw e (omega arith))

-- ---- the tile-parts behind the header

-- the scan lists their tiles and lengths
pairs_listed : (at : ℕ) (ts : List TilePart) → map pair_of (listed_from at ts) ≡ part_entries ts
unfolding listed_from part_entries
pairs_listed at [] = refl
pairs_listed at (t ∷ more) = ap (λ (es : List Entry). record { index = t.Isot; bytes = length_of t } ∷ es) (pairs_listed (at + length_of t) more)

small_parts : (ts : List TilePart) → AllRanges ts → Small (part_entries ts)
unfolding Small AllRanges part_entries
small_parts [] inside = tt
small_parts (t ∷ more) inside = (inside.0.Isot, small_parts more inside.1)

-- what stands behind the marker of the first SOT
after_sot : TilePart → List TilePart → List ℕ → List ℕ
unfolding sot_rows
after_sot t ts behind =
    ((bytes_of_rows (drop 1 (sot_rows (length_of t) t)) ++ (t.header ++ (bytes_of 2 SOD ++ t.packets))) ++ parts_bytes ts) ++ (bytes_of 2 EOC ++ behind)

from_sot : (g : Segment) (ps : List Piece) (t : TilePart) (ts : List TilePart) (behind : List ℕ) → codestream g ps (t ∷ ts) behind ≡ up_to_sot g ps (after_sot t ts behind)
unfolding parts_bytes part_bytes sot_rows bytes_of_rows after_sot
from_sot g ps t ts behind = simp append_assoc

module _ (g : Segment) (ps : List Piece) (t : TilePart) (ts : List TilePart) (behind : List ℕ) (m : IsMain g ps) (inside : AllRanges (t ∷ ts)) (region : ℕ)
    (reaches : length (main_header g ps) + 2 ≤ region) (short : length (take region (codestream g ps (t ∷ ts) behind)) ≤ 0xffff_ffff) where
  check_parts : Distinct (tables ps) → without_index (tables ps) ≤ 65_535
      → checked (codestream g ps (t ∷ ts) behind) region ≡ compared 0 (length (main_header g ps)) (iso_table (tables ps)) (part_entries (t ∷ ts))
  unfolding behind_scan standing
  check_parts distinct few =
      let s : List ℕ = codestream g ps (t ∷ ts) behind in
      let at : ℕ = length (main_header g ps) in
      let scan = scan_standard (main_header g ps) (t ∷ ts) inside behind in
      let whole : checked s region ≡ behind_scan (scan_from s at).ended (compared 0 at (iso_table (tables ps)) (standing s at)) =
      rw (from_sot g ps t ts behind) (check_region g ps (after_sot t ts behind) m region reaches (rw (from_sot g ps t ts behind) at short) distinct few) in
      whole ∙ rw (scan.stops, scan.entries, pairs_listed at (t ∷ ts))

  -- The check passes exactly where no two segments have the same Ztlm and the standard's table lists the tile-parts, each with its tile and its length.
  pub pass_standard : Distinct (tables ps) → iso_table (tables ps) ≡ part_entries (t ∷ ts) → checked (codestream g ps (t ∷ ts) behind) region ≡ Ok None
  unfolding iso_table
  pass_standard distinct e =
      let few = small_few 0 (iso.ordered (tables ps)) (omega arith) (rw e (small_parts (t ∷ ts) inside)) in
      check_parts distinct (omega (arith, count_ordered (tables ps))) ∙ rw e (equal_passes 0 (length (main_header g ps)) (part_entries (t ∷ ts)))

  pub standard_passed : checked (codestream g ps (t ∷ ts) behind) region ≡ Ok None → Distinct (tables ps) × (iso_table (tables ps) ≡ part_entries (t ∷ ts))
  standard_passed e =
      let sot = from_sot g ps t ts behind in
      let reads = rw sot at short in
      let passes = rw sot at e in
      let distinct = passes_distinct g ps (after_sot t ts behind) m region reaches reads passes in
      let few = passes_few g ps (after_sot t ts behind) m region reaches reads passes in
      (distinct, passes_equal 0 (length (main_header g ps)) (iso_table (tables ps)) (part_entries (t ∷ ts)) (sym (check_parts distinct few) ∙ e))
