-- Laws of a record's 21 bytes: four writes make them, and reading them back gives the record.
use Prim.Native.Nat.{ℕ, suc, ◌+◌, ◌*◌, ◌≤◌, ◌<◌, ◌^◌}
use native.Mathlib.Nat.{add-zero}
use native.Mathlib.Omega.{arith}
use mathlib.Core.Path.{◌≡◌, refl, sym, ap, ◌∙◌}
use mathlib.Core.List.{List, [], ◌∷◌, ◌++◌, append_assoc}
use lib.ListN.{length, get_or, set, length-append}
use borrow.Author.Tests.{eq-eqb, ne_eqb}
use Rattle.numbers.specs.Bytes.{be, bytes_of, put}
use Rattle.numbers.proofs.BytesLaws.{length_bytes, put_put, put_sets, be_put, be_front, be_rest, be_bytes_of}
use Rattle.numbers.proofs.Rows.{be_one}
use Rattle.types.specs.declared.PartNumbers.{PartNumbers}
use Rattle.types.specs.declared.PartNumbers.TheVariants.{Known, NotKnown}
use Rattle.types.specs.declared.TilePartEntry.{TilePartEntry}
use Rattle.types.specs.Row.{row_bytes, numbers_at, number_bytes, entry_at, row_of, rows_of}
pub use Rattle.types.specs.Layout.{length_row}

-- the fields' widths; a record's numbers are read back whatever they are
pub record Fits (e : TilePartEntry) : Type 0 where
  pub index : e.tile_index < 2 ^ 16
  pub offset : e.offset.0 < 2 ^ 64
  pub length : e.length < 2 ^ 64

-- ---- the numbers

pub length_numbers : (k : PartNumbers) → length (number_bytes k) ≡ 3
unfolding number_bytes
length_numbers (Known t n) = refl
length_numbers NotKnown = refl

-- three bytes stored one by one
pub stores : (s : List ℕ) (at x y z : ℕ) → at + 3 ≤ length s → set (set (set s at x) (at + 1) y) (at + 2) z ≡ put s at (x ∷ y ∷ z ∷ [])
stores s at x y z h =
    let one : at + 1 ≡ suc at = omega arith in
    let two : at + 2 ≡ suc (suc at) = omega arith in
    rw (one, two) (put_sets (x ∷ y ∷ z ∷ []) s at h)

-- the first byte chooses
pub numbers_none : (s : List ℕ) (at : ℕ) → (get_or s at 0 ≡ 1 → ⊥) → NotKnown ≡ numbers_at s at
unfolding numbers_at
numbers_none s at n = rw (ne_eqb _ _ n)

pub numbers_known : (s : List ℕ) (at : ℕ) → get_or s at 0 ≡ 1 → Known (get_or s (at + 1) 0) (get_or s (at + 2) 0) ≡ numbers_at s at
unfolding numbers_at
numbers_known s at e = rw (eq-eqb _ _ e)

-- they stand where their three bytes do
pub numbers_moved : (s t : List ℕ) (at to : ℕ) → ((i : ℕ) → i < 3 → be 1 s (at + i) ≡ be 1 t (to + i)) → numbers_at s at ≡ numbers_at t to
unfolding numbers_at
numbers_moved s t at to h =
    let each : (i : ℕ) → i < 3 → get_or s (at + i) 0 ≡ get_or t (to + i) 0 = λ i j. sym (be_one s (at + i)) ∙ h i j ∙ be_one t (to + i) in
    let first : get_or s at 0 ≡ get_or t to 0 = ap (λ (n : ℕ). get_or s n 0) (sym (add-zero at)) ∙ each 0 (omega arith) ∙ ap (λ (n : ℕ). get_or t n 0) (add-zero to) in
    rw (first, each 1 (omega arith), each 2 (omega arith))

numbers_back : (k : PartNumbers) → numbers_at (number_bytes k) 0 ≡ k
unfolding numbers_at number_bytes
numbers_back (Known t n) = refl
numbers_back NotKnown = refl

-- ---- the row

pub length_rows : (es : List TilePartEntry) → length (rows_of es) ≡ row_bytes * length es
unfolding rows_of
length_rows [] = refl
length_rows (e ∷ rest) = rw (length-append, length_row, length_rows rest) (omega arith)

-- the four fields written one after the other are the row
pub put_row : {s₁ s₂ s₃ s₄ : List ℕ} (e : TilePartEntry) (s : List ℕ) (at : ℕ) → at + row_bytes ≤ length s
    → s₁ ≡ put s at (bytes_of 2 e.tile_index)
    → s₂ ≡ put s₁ (at + 2) (bytes_of 8 e.offset.0)
    → s₃ ≡ put s₂ (at + 10) (bytes_of 8 e.length)
    → s₄ ≡ put s₃ (at + 18) (number_bytes e.numbers)
    → s₄ ≡ put s at (row_of e)
unfolding row_of
put_row e s at h first second third fourth =
    let index : List ℕ = bytes_of 2 e.tile_index in
    let offset : List ℕ = bytes_of 8 e.offset.0 in
    let long : List ℕ = bytes_of 8 e.length in
    let ten : length (index ++ offset) ≡ 10 = simp (length-append, length_bytes) in
    let eighteen : length ((index ++ offset) ++ long) ≡ 18 = simp (length-append, length_bytes) in
    rw (fourth, third, second, first)
    (rw (put_put s at index offset 2 (length_bytes 2 _) (omega (arith, length_bytes 8 e.offset.0)))
    (rw (put_put s at (index ++ offset) long 10 ten (omega (arith, length_bytes 8 e.length)))
    (rw (put_put s at ((index ++ offset) ++ long) (number_bytes e.numbers) 18 eighteen (omega (arith, length_numbers e.numbers)))
    (simp append_assoc))))

-- the fields of a row
be_row : (e : TilePartEntry) → Fits e → entry_at (row_of e) 0 ≡ e
unfolding row_of
be_row e f =
    let index : List ℕ = bytes_of 2 e.tile_index in
    let offset : List ℕ = bytes_of 8 e.offset.0 in
    let long : List ℕ = bytes_of 8 e.length in
    let last : List ℕ = number_bytes e.numbers in
    let row : List ℕ = index ++ (offset ++ (long ++ last)) in
    let two : length index ≡ 2 = length_bytes 2 e.tile_index in
    let eight : length offset ≡ 8 = length_bytes 8 e.offset.0 in
    let eight' : length long ≡ 8 = length_bytes 8 e.length in
    let behind : (k i : ℕ) → be k row (2 + i) ≡ be k (offset ++ (long ++ last)) i =
    λ k i. ap (λ (n : ℕ). be k row (n + i)) (sym two) ∙ be_rest k index (offset ++ (long ++ last)) i in
    let behind' : (k i : ℕ) → be k (offset ++ (long ++ last)) (8 + i) ≡ be k (long ++ last) i =
    λ k i. ap (λ (n : ℕ). be k (offset ++ (long ++ last)) (n + i)) (sym eight) ∙ be_rest k offset (long ++ last) i in
    let behind'' : (k i : ℕ) → be k (long ++ last) (8 + i) ≡ be k last i =
    λ k i. ap (λ (n : ℕ). be k (long ++ last) (n + i)) (sym eight') ∙ be_rest k long last i in
    let first : be 2 row 0 ≡ e.tile_index =
    be_front 2 index (offset ++ (long ++ last)) 0 (omega arith) ∙ be_bytes_of 2 e.tile_index f.index in
    let second : be 8 row 2 ≡ e.offset.0 =
    behind 8 0 ∙ be_front 8 offset (long ++ last) 0 (omega arith) ∙ be_bytes_of 8 e.offset.0 f.offset in
    let third : be 8 row 10 ≡ e.length =
    behind 8 8 ∙ behind' 8 0 ∙ be_front 8 long last 0 (omega arith) ∙ be_bytes_of 8 e.length f.length in
    let fourth : numbers_at row 18 ≡ e.numbers =
    numbers_moved row last 18 0
    (λ i h. ap (be 1 row) (omega arith) ∙ behind 1 (16 + i) ∙ ap (be 1 (offset ++ (long ++ last))) (omega arith) ∙ behind' 1 (8 + i) ∙ behind'' 1 i ∙ ap (be 1 last) (omega arith))
    ∙ numbers_back e.numbers in
    λ i. record { tile_index = first i; numbers = fourth i; offset = record { 0 = second i }; length = third i }

-- a record that was written is read back
pub entry_put : (e : TilePartEntry) (s : List ℕ) (at : ℕ) → Fits e → at + row_bytes ≤ length s → entry_at (put s at (row_of e)) at ≡ e
entry_put e s at f h =
    let row : List ℕ = row_of e in
    let first : be 2 (put s at row) at ≡ be 2 row 0 =
    ap (λ (n : ℕ). be 2 (put s at row) n) (sym (add-zero at)) ∙ be_put 2 s at row 0 (omega arith) (omega (arith, length_row e)) in
    let second : be 8 (put s at row) (at + 2) ≡ be 8 row 2 = be_put 8 s at row 2 (omega arith) (omega (arith, length_row e)) in
    let third : be 8 (put s at row) (at + 10) ≡ be 8 row 10 = be_put 8 s at row 10 (omega arith) (omega (arith, length_row e)) in
    let fourth : numbers_at (put s at row) (at + 18) ≡ numbers_at row 18 =
    numbers_moved (put s at row) row (at + 18) 18 (λ i j. ap (λ (n : ℕ). be 1 (put s at row) n) (omega arith) ∙ be_put 1 s at row (18 + i) (omega arith) (omega (arith, length_row e))) in
    (λ i. record { tile_index = first i; numbers = fourth i; offset = record { 0 = second i }; length = third i }) ∙ be_row e f
