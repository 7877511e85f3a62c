-- Laws of a box's 29 bytes: five writes make them, and rows stand one after the other.
use Prim.Native.Nat.{ℕ, ◌+◌, ◌*◌, ◌≤◌}
use native.Mathlib.Omega.{arith}
use mathlib.Core.Path.{◌≡◌, refl, sym, ap}
use mathlib.Core.List.{List, [], ◌∷◌, ◌++◌, append_assoc}
use lib.ListN.{length, set, length-append}
use Rattle.numbers.specs.Bytes.{bytes_of, put}
use Rattle.numbers.proofs.BytesLaws.{length_bytes, put_put, put_one}
use Rattle.reader.specs.declared.box_row.BoxEntry.{BoxEntry}
use Rattle.reader.specs.BoxRow.{row_of, rows_of}

pub length_row : (e : BoxEntry) → length (row_of e) ≡ 29
unfolding row_of
length_row e = simp (length-append, length_bytes)

pub rows_append : (xs ys : List BoxEntry) → rows_of (xs ++ ys) ≡ rows_of xs ++ rows_of ys
unfolding rows_of
rows_append [] ys = refl
rows_append (e ∷ xs) ys = rw (rows_append xs ys) (sym (append_assoc (row_of e) (rows_of xs) (rows_of ys)))

pub rows_one : (e : BoxEntry) (es : List BoxEntry) → rows_of (e ∷ es) ≡ row_of e ++ rows_of es
unfolding rows_of
rows_one e es = refl

pub rows_none : rows_of [] ≡ []
unfolding rows_of
rows_none = refl

pub length_rows : (es : List BoxEntry) → length (rows_of es) ≡ 29 * length es
length_rows [] = rw rows_none
length_rows (e ∷ es) = rw (rows_one, length-append, length_row, length_rows es) (omega arith)

-- the five fields written one after the other are the row
pub put_row : (e : BoxEntry) (s : List ℕ) (at : ℕ) → at + 29 ≤ length s
    → put (put (put (put (set s at e.depth) (at + 1) (bytes_of 4 e.kind)) (at + 5) (bytes_of 8 e.start.0)) (at + 13) (bytes_of 8 e.content.0)) (at + 21) (bytes_of 8 e.length)
    ≡ put s at (row_of e)
unfolding row_of
put_row e s at h =
    let one : List ℕ = e.depth ∷ [] in
    let kind : List ℕ = bytes_of 4 e.kind in
    let start : List ℕ = bytes_of 8 e.start.0 in
    let content : List ℕ = bytes_of 8 e.content.0 in
    let long : List ℕ = bytes_of 8 e.length in
    let k = length_bytes 4 e.kind in
    let s8 = length_bytes 8 e.start.0 in
    let c8 = length_bytes 8 e.content.0 in
    let l8 = length_bytes 8 e.length in
    let five : lib.ListN.length (one ++ kind) ≡ 5 = simp (length-append, length_bytes) in
    let thirteen : lib.ListN.length ((one ++ kind) ++ start) ≡ 13 = simp (length-append, length_bytes) in
    let twenty-one : lib.ListN.length (((one ++ kind) ++ start) ++ content) ≡ 21 = simp (length-append, length_bytes) in
    rw (put_one s at e.depth (omega arith))
    (rw (put_put s at one kind 1 refl (omega arith))
    (rw (put_put s at (one ++ kind) start 5 five (omega arith))
    (rw (put_put s at ((one ++ kind) ++ start) content 13 thirteen (omega arith))
    (rw (put_put s at (((one ++ kind) ++ start) ++ content) long 21 twenty-one (omega arith))
    (ap (put s at) (simp append_assoc))))))
