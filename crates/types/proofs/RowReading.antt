-- The rows of a table read one by one: none, or the row here and those after it. The rows of records, read back, are those records.
use Prim.Native.Nat.{ℕ, zero, suc, ◌+◌, ◌*◌, ◌-◌, ◌/◌, ◌≤◌, ◌<◌}
use native.Mathlib.Nat.{add-zero, zero-add}
use native.Mathlib.Numerals.{add-one}
use native.Mathlib.Omega.{arith}
use mathlib.Core.Path.{◌≡◌, refl, sym, ap, ap₂, ◌∙◌}
use mathlib.Core.List.{List, [], ◌∷◌, ◌++◌, append_assoc}
use lib.ListN.{length, drop, length-append}
use lib.Seq.{drop-append_seam}
use Rattle.numbers.specs.Bytes.{be, put}
use Rattle.numbers.proofs.BytesLaws.{be_rest, put_start}
use Rattle.types.specs.declared.TilePartEntry.{TilePartEntry}
use Rattle.types.specs.Row.{row_bytes, numbers_at, entry_at, row_of, rows_of, records_at, records_from, records_in}
pub use Rattle.types.specs.Layout.{length_at, length_records}
use Rattle.types.specs.Layout.{length_row}
use Rattle.types.proofs.RowLaws.{Fits, numbers_moved, length_rows, entry_put}

-- ---- one by one

pub records_none : (table : List ℕ) (at : ℕ) → length table < at + row_bytes → records_from table at ≡ []
unfolding records_from records_at
records_none table at h =
    let none : (length table - at) / row_bytes ≡ 0 = omega arith in
    rw none

pub records_next : (table : List ℕ) (at : ℕ) → at + row_bytes ≤ length table → records_from table at ≡ entry_at table at ∷ records_from table (at + row_bytes)
unfolding records_from records_at
records_next table at h =
    let one : (length table - at) / row_bytes ≡ suc ((length table - (at + row_bytes)) / row_bytes) = omega arith in
    rw one

-- ---- by number

record_at : (n m : ℕ) (s : List ℕ) (at : ℕ) → n < m → drop n (records_at m s at) ≡ entry_at s (at + n * row_bytes) ∷ drop (suc n) (records_at m s at)
unfolding records_at
record_at n zero s at h = absurd (omega arith)
record_at zero (suc m) s at h = ap (λ (p : ℕ). entry_at s p ∷ records_at m s (at + row_bytes)) (sym (add-zero at))
record_at (suc n) (suc m) s at h =
    let there : at + row_bytes + n * row_bytes ≡ at + suc n * row_bytes = omega arith in
    record_at n m s (at + row_bytes) (omega arith) ∙ ap (λ (p : ℕ). entry_at s p ∷ drop (suc n) (records_at m s (at + row_bytes))) there

-- the n-th stands n rows on
pub record_here : (table : List ℕ) (n : ℕ) → n < length table / row_bytes → drop n (records_in table) ≡ entry_at table (n * row_bytes) ∷ drop (n + 1) (records_in table)
unfolding records_in records_from
record_here table n h =
    let m : ℕ = (length table - 0) / row_bytes in
    record_at n m table 0 (omega arith)
    ∙ ap₂ (λ (p q : ℕ). entry_at table p ∷ drop q (records_at m table 0)) (zero-add (n * row_bytes)) (sym (add-one n))

-- ---- read back

pub data All (P : TilePartEntry → Type 0) : List TilePartEntry → Type 0 where
  none : All P []
  more : {e : TilePartEntry} {rest : List TilePartEntry} → P e → All P rest → All P (e ∷ rest)

pub all_map : {P Q : TilePartEntry → Type 0} → ((e : TilePartEntry) → P e → Q e) → {es : List TilePartEntry} → All P es → All Q es
all_map f none = none
all_map f (more {e = e} p rest) = more (f e p) (all_map f rest)

row_here : (e : TilePartEntry) (rest : List ℕ) → Fits e → entry_at (row_of e ++ rest) 0 ≡ e
row_here e rest f =
    let whole : List ℕ = row_of e ++ rest in
    let same : put whole 0 (row_of e) ≡ whole = put_start whole (row_of e) ∙ ap (λ (l : List ℕ). row_of e ++ l) (drop-append_seam (row_of e) rest) in
    ap (λ (l : List ℕ). entry_at l 0) (sym same) ∙ entry_put e whole 0 f (simp length-append (omega (arith, length_row e)))

entry_past : (front s : List ℕ) (at : ℕ) → entry_at (front ++ s) (length front + at) ≡ entry_at s at
entry_past front s at =
    let field : (k i : ℕ) → be k (front ++ s) (length front + at + i) ≡ be k s (at + i) =
    λ k i. ap (be k (front ++ s)) (omega arith) ∙ be_rest k front s (at + i) in
    let last : numbers_at (front ++ s) (length front + at + 18) ≡ numbers_at s (at + 18) =
    numbers_moved (front ++ s) s (length front + at + 18) (at + 18) (λ i h. ap (be 1 (front ++ s)) (omega arith) ∙ be_rest 1 front s (at + 18 + i)) in
    λ i. record { tile_index = be_rest 2 front s at i; numbers = last i; offset = record { 0 = field 8 2 i }; length = field 8 10 i }

row_ends : (front : List ℕ) (e : TilePartEntry) → length front + row_bytes ≡ length (front ++ row_of e)
row_ends front e = simp length-append (omega (arith, length_row e))

rows_back : {es : List TilePartEntry} → All Fits es → (front : List ℕ) → records_at (length es) (front ++ rows_of es) (length front) ≡ es
unfolding records_at rows_of
rows_back none front = refl
rows_back (more {e = e} {rest = rest} f fits) front =
    ap₂ (λ (x : TilePartEntry) (xs : List TilePartEntry). x ∷ xs)
    (ap (entry_at (front ++ (row_of e ++ rows_of rest))) (sym (add-zero (length front))) ∙ entry_past front (row_of e ++ rows_of rest) 0 ∙ row_here e (rows_of rest) f)
    (ap₂ (λ (l : List ℕ) (n : ℕ). records_at (length rest) l n) (sym (append_assoc front (row_of e) (rows_of rest))) (row_ends front e)
    ∙ rows_back fits (front ++ row_of e))

pub records_back : {es : List TilePartEntry} → All Fits es → records_in (rows_of es) ≡ es
unfolding records_in records_from
records_back {es} fits =
    let count : (length (rows_of es) - 0) / row_bytes ≡ length es = omega (arith, length_rows es) in
    ap (λ (n : ℕ). records_at n (rows_of es) 0) count ∙ rows_back fits []
