-- A row's part, there or dropped, and the parts of the rows of a table that are left.
use Prim.Native.Nat.{ℕ, zero, suc, ◌+◌, ◌-◌, ◌/◌, ◌≤◌, ◌<◌}
use native.Mathlib.Nat.{add_assoc}
use native.Mathlib.Omega.{arith}
use mathlib.Core.Path.{◌≡◌, refl, sym, ap, ap₂, ◌∙◌}
use mathlib.Core.List.{List, [], ◌∷◌, ◌++◌}
use lib.ListN.{length, take, drop, length-append}
use borrow.Author.Tests.{le-leb, lt-leb}
use Rattle.std.specs.Prelude.{Option, Some, None}
use Rattle.numbers.specs.Bytes.{be}
use Rattle.numbers.proofs.BytesLaws.{be_front, be_rest}
use Rattle.types.specs.Row.{row_bytes, numbers_at, entry_at, records_at, records_from, records_in}
use Rattle.types.proofs.RowLaws.{numbers_moved}
use Rattle.types.proofs.RowReading.{records_none, records_next}
use Rattle.types.specs.declared.TilePartEntry.{TilePartEntry}
use Rattle.tile.specs.Assembly.{part_of, and_part, parts_in}

-- ---- a part

module _ (s : List ℕ) (e : TilePartEntry) where
  pub part_kept : e.offset.0 + e.length ≤ length s → part_of s e ≡ Some (take e.length (drop e.offset.0 s))
  unfolding part_of
  part_kept h = rw (le-leb _ _ h)

  pub part_dropped : length s < e.offset.0 + e.length → part_of s e ≡ None
  unfolding part_of
  part_dropped h = rw (lt-leb _ _ h)

-- ---- rows

module _ (front s : List ℕ) where
  entry_front : row_bytes ≤ length front → entry_at (front ++ s) 0 ≡ entry_at front 0
  entry_front h =
      let last : numbers_at (front ++ s) 18 ≡ numbers_at front 18 =
      numbers_moved (front ++ s) front 18 18 (λ i j. be_front 1 front s (18 + i) (omega arith)) in
      λ i. record {
        tile_index = be_front 2 front s 0 (omega arith) i;
        numbers = last i;
        offset = record { 0 = be_front 8 front s 2 (omega arith) i };
        length = be_front 8 front s 10 (omega arith) i;
      }

  entry_rest : (at : ℕ) → entry_at (front ++ s) (length front + at) ≡ entry_at s at
  entry_rest at =
      let there : (k : ℕ) → length front + at + k ≡ length front + (at + k) = λ k. add_assoc (length front) at k in
      let last : numbers_at (front ++ s) (length front + at + 18) ≡ numbers_at s (at + 18) =
      numbers_moved (front ++ s) s (length front + at + 18) (at + 18)
      (λ i j. ap (be 1 (front ++ s)) (omega arith) ∙ be_rest 1 front s (at + 18 + i)) in
      let second : be 8 (front ++ s) (length front + at + 2) ≡ be 8 s (at + 2) = ap (be 8 (front ++ s)) (there 2) ∙ be_rest 8 front s (at + 2) in
      let third : be 8 (front ++ s) (length front + at + 10) ≡ be 8 s (at + 10) = ap (be 8 (front ++ s)) (there 10) ∙ be_rest 8 front s (at + 10) in
      λ i. record { tile_index = be_rest 2 front s at i; numbers = last i; offset = record { 0 = second i }; length = third i }

  records_past : (n at : ℕ) → records_at n (front ++ s) (length front + at) ≡ records_at n s at
  unfolding records_at
  records_past zero at = refl
  records_past (suc n) at =
      ap₂ (λ (e : TilePartEntry) (es : List TilePartEntry). e ∷ es) (entry_rest at)
      (ap (records_at n (front ++ s)) (add_assoc (length front) at row_bytes) ∙ records_past n (at + row_bytes))

  -- the row in front, and those after it
  row_first : length front ≡ row_bytes → records_in (front ++ s) ≡ entry_at front 0 ∷ records_in s
  unfolding records_in records_from
  row_first h =
      let long : length (front ++ s) ≡ row_bytes + length s = length-append front s ∙ ap (λ (n : ℕ). n + length s) h in
      let room : 0 + row_bytes ≤ length (front ++ s) = omega arith in
      let count : (length (front ++ s) - (0 + row_bytes)) / row_bytes ≡ (length s - 0) / row_bytes = omega arith in
      let past : 0 + row_bytes ≡ length front + 0 = omega arith in
      records_next (front ++ s) 0 room
      ∙ ap₂ (λ (e : TilePartEntry) (es : List TilePartEntry). e ∷ es) (entry_front (omega arith))
      (ap₂ (λ (n at : ℕ). records_at n (front ++ s) at) count past ∙ records_past ((length s - 0) / row_bytes) 0)

-- ---- the parts of rows

-- a row that is cut off the front
pub record Cut (rows row rest : List ℕ) : Type 0 where
  pub whole : rows ≡ row ++ rest
  pub long : length row ≡ row_bytes

-- the parts of the rows that are left
abbrev pub parts_left : List ℕ → List ℕ → List (List ℕ)
parts_left s rows = parts_in s (records_in rows)

module _ (s : List ℕ) where
  pub parts_none : (rows : List ℕ) → length rows < row_bytes → parts_left s rows ≡ []
  unfolding parts_in records_in
  parts_none rows h = ap (parts_in s) (records_none rows 0 (omega arith))

  module _ {rows row rest : List ℕ} (cut : Cut rows row rest) where
    next : parts_left s rows ≡ and_part (part_of s (entry_at row 0)) (parts_left s rest)
    unfolding parts_in
    next = ap (parts_left s) cut.whole ∙ ap (parts_in s) (row_first row rest cut.long)

    pub parts_kept : {part : List ℕ} → Some part ≡ part_of s (entry_at row 0) → parts_left s rows ≡ part ∷ parts_left s rest
    unfolding and_part
    parts_kept e = next ∙ ap (λ (p : Option (List ℕ)). and_part p (parts_left s rest)) (sym e)

    pub parts_dropped : ◌≡◌ {A = Option (List ℕ)} None (part_of s (entry_at row 0)) → parts_left s rows ≡ parts_left s rest
    unfolding and_part
    parts_dropped e = next ∙ ap (λ (p : Option (List ℕ)). and_part p (parts_left s rest)) (sym e)
