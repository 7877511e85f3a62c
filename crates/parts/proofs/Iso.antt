-- The scan over the standard's tile-parts. Behind any bytes the rows of an SOT are read as its fields, so the step finds the tile-part; the scan goes
-- from each to the next, so it lists them all, and EOC ends it. Where the last has Psot 0, its entry takes EOC too.
use Prim.Native.Nat.{ℕ, suc, ◌+◌, ◌≤◌}
use native.Mathlib.Omega.{arith}
use mathlib.Core.Path.{◌≡◌, refl, sym, ap, ap₂, ◌∙◌}
use mathlib.Core.List.{List, [], ◌∷◌, ◌++◌, append_assoc, append-nil}
use lib.ListN.{length, take, length-append}
use borrow.Author.Tests.{le-leb, eq-eqb}
use Rattle.std.specs.Prelude.{Some, None, Ok}
use Rattle.numbers.specs.Bytes.{be, bytes_of}
use Rattle.numbers.specs.Rows.{Row, bytes_of_rows, widths}
use Rattle.numbers.proofs.BytesLaws.{length_bytes, be_rest, be_front, be_bytes_of}
use Rattle.numbers.proofs.Rows.{length_rows, be_row, be_behind, be_one}
use Rattle.types.specs.Markers.{SOT, SOD, EOC}
use Rattle.types.specs.declared.PartNumbers.TheVariants.{Known}
use Rattle.types.specs.declared.TilePartEntry.{TilePartEntry}
use Rattle.parts.specs.Sot.{lsot, isot, psot, tpsot, tnsot}
use Rattle.parts.specs.Scan.{eoc_at, sot_step_at, scan_step_at, scanned}
use Rattle.parts.specs.Iso.{TilePart, sot_rows, part_bytes, length_of, Ranges, AllRanges, parts_bytes, listed, listed_from}
use Rattle.parts.proofs.ScanLaws.{sot_rest, sot_part, step_outside, step_eoc, step_sot, sot_no_eoc, same_part, Scans, scans_end, scans_part}
use Rattle.parts.proofs.ScanAnswers.{scans_accepted}

-- ---- one tile-part

length_part : (Psot : ℕ) (t : TilePart) → length (part_bytes Psot t) ≡ length_of t
unfolding part_bytes sot_rows widths
length_part Psot t = simp (length-append, length_rows, length_bytes)

-- where its SOT is read, the step finds an SOT with these fields
record Read (s : List ℕ) (at Psot : ℕ) (t : TilePart) : Type 0 where
  step : scan_step_at s at ≡ sot_step_at s at
  ten : lsot s at ≡ 10
  tile : isot s at ≡ t.Isot
  size : psot s at ≡ Psot
  numbers : Known (tpsot s at) (tnsot s at) ≡ Known t.TPsot t.TNsot

part_read : (front : List ℕ) (Psot : ℕ) (t : TilePart) (rest : List ℕ) → Ranges Psot t → Read (front ++ (part_bytes Psot t ++ rest)) (length front) Psot t
unfolding part_bytes sot_rows widths
part_read front Psot t rest g =
    let tail : List ℕ = (t.header ++ (bytes_of 2 SOD ++ t.packets)) ++ rest in
    let s : List ℕ = front ++ (bytes_of_rows (sot_rows Psot t) ++ tail) in
    let before : ℕ → List Row = λ k. take k (sot_rows Psot t) in
    let marker : be 2 s (length front) ≡ SOT = be_behind 2 front _ ∙ be_row [] 2 SOT _ tail (omega arith) in
    let long : length front + 12 ≤ length s = simp (length-append, length_rows) (omega arith) in
    let number : tpsot s (length front) ≡ t.TPsot = sym (be_one s _) ∙ be_rest 1 front _ _ ∙ be_row (before 4) 1 t.TPsot _ tail (omega (arith, g.TPsot)) in
    let count : tnsot s (length front) ≡ t.TNsot = sym (be_one s _) ∙ be_rest 1 front _ _ ∙ be_row (before 5) 1 t.TNsot _ tail (omega (arith, g.TNsot)) in
    rw (append_assoc (bytes_of_rows (sot_rows Psot t)))
    (record {
      step = step_sot s (length front) (omega arith) (sot_no_eoc s (length front) marker) long marker;
      ten = be_rest 2 front _ _ ∙ be_row (before 1) 2 10 _ tail (omega arith);
      tile = be_rest 2 front _ _ ∙ be_row (before 2) 2 t.Isot _ tail (omega arith);
      size = be_rest 4 front _ _ ∙ be_row (before 3) 4 Psot _ tail g.Psot;
      numbers = ap₂ Known number count;
    })

pub part_standard : (front : List ℕ) (t : TilePart) (rest : List ℕ) → Ranges (length_of t) t
    → scan_step_at (front ++ (part_bytes (length_of t) t ++ rest)) (length front) ≡ Ok (Some (listed (length front) (length_of t) t))
part_standard front t rest g =
    let s : List ℕ = front ++ (part_bytes (length_of t) t ++ rest) in
    let r = part_read front (length_of t) t rest g in
    let whole : length s ≡ length front + (length_of t + length rest) = simp (length-append, length_part) in
    r.step ∙ sot_part s (length front) r.ten (λ z. omega arith) (omega arith) ∙ same_part r.tile r.numbers r.size

-- with Psot 0: to the codestream's end, EOC's two bytes included
pub part_standard_last : (front : List ℕ) (t : TilePart) → Ranges 0 t
    → scan_step_at (front ++ (part_bytes 0 t ++ bytes_of 2 EOC)) (length front) ≡ Ok (Some (listed (length front) (length_of t + 2) t))
part_standard_last front t g =
    let s : List ℕ = front ++ (part_bytes 0 t ++ bytes_of 2 EOC) in
    let r = part_read front 0 t (bytes_of 2 EOC) g in
    let whole : length s ≡ length front + (length_of t + 2) = simp (length-append, length_part, length_bytes) in
    r.step ∙ sot_rest s (length front) r.ten r.size ∙ same_part r.tile r.numbers (omega arith)

-- ---- all of them

-- they are passed, and then the scan finds what stands behind them
parts_passed : (front : List ℕ) (ts : List TilePart) (rest : List ℕ) (es : List TilePartEntry) → AllRanges ts
    → Scans ((front ++ parts_bytes ts) ++ rest) (length (front ++ parts_bytes ts)) es
    → Scans (front ++ (parts_bytes ts ++ rest)) (length front) (listed_from (length front) ts ++ es)
unfolding AllRanges parts_bytes listed_from
parts_passed front [] rest es g h = rw append-nil at h
parts_passed front (t ∷ more) rest es g h =
    let part : List ℕ = part_bytes (length_of t) t in
    let next : length (front ++ part) ≡ length front + length_of t = simp (length-append, length_part) in
    let after = parts_passed (front ++ part) more rest es g.1 (rw (append_assoc front part (parts_bytes more)) h) in
    rw (append_assoc part (parts_bytes more) rest)
    (scans_part _ (length front) (listed (length front) (length_of t) t) _ (part_standard front t (parts_bytes more ++ rest) g.0)
    (rw (next, append_assoc front part (parts_bytes more ++ rest)) at after))

length_listed : (at : ℕ) (ts : List TilePart) → length (listed_from at ts) ≡ length ts
unfolding listed_from
length_listed at [] = refl
length_listed at (t ∷ more) = ap suc (length_listed (at + length_of t) more)

pub eoc_ends : (front behind : List ℕ) → scan_step_at (front ++ (bytes_of 2 EOC ++ behind)) (length front) ≡ Ok None
unfolding eoc_at
eoc_ends front behind =
    let s : List ℕ = front ++ (bytes_of 2 EOC ++ behind) in
    let whole : length s ≡ length front + (2 + length behind) = simp (length-append, length_bytes) in
    let marker : be 2 s (length front) ≡ EOC =
    be_behind 2 front _ ∙ be_front 2 (bytes_of 2 EOC) behind 0 (omega (arith, length_bytes 2 EOC)) ∙ be_bytes_of 2 EOC (omega arith) in
    step_eoc s (length front) (omega arith) (rw (le-leb (length front + 2) (length s) (omega arith), eq-eqb _ _ marker))

module _ (front : List ℕ) (ts : List TilePart) (g : AllRanges ts) where
  -- Tile-parts, each with its own Psot, and EOC: the scan is not refused, and lists them. What stands behind EOC is not looked at.
  module _ (behind : List ℕ) where
    pub scan_standard : Scans (front ++ (parts_bytes ts ++ (bytes_of 2 EOC ++ behind))) (length front) (listed_from (length front) ts)
    scan_standard =
        rw append-nil at (parts_passed front ts (bytes_of 2 EOC ++ behind) [] g (scans_end _ _ (eoc_ends (front ++ parts_bytes ts) behind)))

    pub scan_standard_accepts : (rows : ℕ) → length ts ≤ rows
        → scanned (front ++ (parts_bytes ts ++ (bytes_of 2 EOC ++ behind))) (length front) rows ≡ Ok (length ts)
    scan_standard_accepts rows room = scans_accepted (length ts) rows scan_standard (length_listed (length front) ts) room

  -- The same with one more, the last, whose Psot is 0.
  module _ (t : TilePart) (last : Ranges 0 t) where
    pub scan_standard_last : Scans (front ++ (parts_bytes ts ++ (part_bytes 0 t ++ bytes_of 2 EOC))) (length front)
        (listed_from (length front) ts ++ (listed (length front + length (parts_bytes ts)) (length_of t + 2) t ∷ []))
    scan_standard_last =
        let before : List ℕ = front ++ parts_bytes ts in
        let e : TilePartEntry = listed (length before) (length_of t + 2) t in
        let s : List ℕ = before ++ (part_bytes 0 t ++ bytes_of 2 EOC) in
        let whole : length s ≡ length before + (length_of t + 2) = simp (length-append, length_part, length_bytes) in
        rw (← length-append front (parts_bytes ts))
        (parts_passed front ts (part_bytes 0 t ++ bytes_of 2 EOC) (e ∷ []) g
        (scans_part s (length before) e [] (part_standard_last before t last) (scans_end _ _ (step_outside _ _ (omega arith)))))

    pub scan_standard_last_accepts : (rows : ℕ) → length ts + 1 ≤ rows
        → scanned (front ++ (parts_bytes ts ++ (part_bytes 0 t ++ bytes_of 2 EOC))) (length front) rows ≡ Ok (length ts + 1)
    scan_standard_last_accepts rows room =
        scans_accepted (length ts + 1) rows scan_standard_last (simp (length-append, length_listed)) room
