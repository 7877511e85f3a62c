-- What is read of a table's rows: each where the rows before it end, also behind other bytes. And where they are all read, their bytes stand.
use Prim.Native.Nat.{ℕ, ◌+◌, ◌^◌, ◌≤◌, ◌<◌}
use native.Mathlib.Nat.{add-zero}
use native.Mathlib.Omega.{arith}
use mathlib.Core.Path.{◌≡◌, refl, sym, ap, ◌∙◌}
use mathlib.Core.List.{List, [], ◌∷◌, ◌++◌, append_assoc}
use lib.ListN.{length, get_or, take, drop, length-append}
use Rattle.numbers.specs.Bytes.{be, bytes_of}
use Rattle.numbers.specs.Rows.{Row, row, bytes_of_rows, widths}
use Rattle.numbers.proofs.BytesLaws.{length_bytes, be_front, be_rest, be_bytes_of, bytes_next}

pub length_rows : (rows : List Row) → length (bytes_of_rows rows) ≡ widths rows
unfolding bytes_of_rows widths
length_rows [] = refl
length_rows (r ∷ rows) = rw (length-append, length_bytes, length_rows rows)

-- a row is read where the rows before it end
pub be_row : (before : List Row) (width value : ℕ) (after : List Row) (rest : List ℕ) → value < 256 ^ width
    → be width (bytes_of_rows (before ++ (row width value ∷ after)) ++ rest) (widths before) ≡ value
unfolding bytes_of_rows widths
be_row [] width value after rest h =
    rw append_assoc (be_front width (bytes_of width value) _ 0 (omega (arith, length_bytes width value)) ∙ be_bytes_of width value h)
be_row (r ∷ before) width value after rest h =
    let tail : List ℕ = bytes_of_rows (before ++ (row width value ∷ after)) ++ rest in
    rw append_assoc
    (ap (λ (n : ℕ). be width (bytes_of r.width r.value ++ tail) (n + widths before)) (sym (length_bytes r.width r.value))
    ∙ be_rest width (bytes_of r.width r.value) tail (widths before)
    ∙ be_row before width value after rest h)

-- a read at what stands behind other bytes
pub be_behind : (k : ℕ) (front s : List ℕ) → be k (front ++ s) (length front) ≡ be k s 0
be_behind k front s = ap (be k (front ++ s)) (sym (add-zero (length front))) ∙ be_rest k front s 0

-- rows that are read one after the other, from a position on
unfoldable pub RowsAt : List ℕ → ℕ → List Row → Type 0
RowsAt s at [] = Unit {0}
RowsAt s at (r ∷ rows) = (be r.width s at ≡ r.value) × RowsAt s (at + r.width) rows

-- their bytes stand there
pub bytes_rows : (s : List ℕ) (at : ℕ) (rows : List Row) → ((i : ℕ) → get_or s i 0 < 256) → RowsAt s at rows → at + widths rows ≤ length s
    → bytes_of_rows rows ≡ take (widths rows) (drop at s)
unfolding RowsAt bytes_of_rows widths
bytes_rows s at [] bytes are room = refl
bytes_rows s at (r ∷ rows) bytes are room =
    rw (← are.0, bytes_rows s (at + r.width) rows bytes are.1 (omega arith)) (sym (bytes_next r.width (widths rows) s at bytes (omega arith)))

-- a single byte
pub be_one : (s : List ℕ) (at : ℕ) → be 1 s at ≡ get_or s at 0
unfolding be
be_one s at = rw add-zero (omega arith)
