-- Rows that become records one by one, and records that become rows.
use Prim.Native.Nat.{ℕ, zero, suc, ◌+◌, ◌*◌, ◌≤◌, ◌<◌, min}
use native.Mathlib.Nat.{zero-add}
use native.Mathlib.Numerals.{add-one}
use native.Mathlib.Omega.{arith}
use mathlib.Core.Path.{◌≡◌, sym, ap, ap₂, ◌∙◌}
use mathlib.Core.List.{List, [], ◌∷◌, ◌++◌, append-nil}
use lib.ListN.{length, get_or, set, take, drop}
use lib.Seq.{take-suc, length-take-le, take-append_seam}
use Rattle.numbers.specs.Bytes.{put}
use Rattle.numbers.proofs.BytesLaws.{put_put, put_one, put_start, length_put}
use Rattle.types.specs.Row.{row_bytes, entry_at, row_of, rows_of, records_at}
use Rattle.types.proofs.RowLaws.{length_row, length_rows}
use Rattle.types.proofs.RowReading.{length_at}
use Rattle.types.proofs.RowStanding.{rows, all_append, rows_more, rows_none}
use Rattle.types.specs.declared.TilePartEntry.{TilePartEntry}
use Rattle.records.specs.Tables.{blank}
use Rattle.probe.specs.Own.{held, own}

-- one row more
records_last : (n : ℕ) (s : List ℕ) (at : ℕ) → records_at (suc n) s at ≡ records_at n s at ++ (entry_at s (at + row_bytes * n) ∷ [])
unfolding records_at
records_last zero s at = ap (λ (k : ℕ). entry_at s k ∷ []) (omega arith)
records_last (suc n) s at =
    ap (λ (es : List TilePartEntry). entry_at s at ∷ es)
    (records_last n s (at + row_bytes) ∙ ap (λ (k : ℕ). records_at n s (at + row_bytes) ++ (entry_at s k ∷ [])) (omega arith))

pub loaded_row : {e : TilePartEntry} {next : List TilePartEntry} (table : List TilePartEntry) (s : List ℕ) (i : ℕ) → i < length table → e ≡ entry_at s (row_bytes * i)
    → next ≡ set (put table 0 (records_at i s 0)) i e → next ≡ put table 0 (records_at (i + 1) s 0)
loaded_row {e} {next} table s i fits read new =
    let some : List TilePartEntry = records_at i s 0 in
    let many : length some ≡ i = length_at i s 0 in
    let same : length (put table 0 some) ≡ length table = length_put table 0 some (omega arith) in
    let last : records_at (i + 1) s 0 ≡ some ++ (e ∷ []) =
    ap (λ (n : ℕ). records_at n s 0) (add-one i) ∙ records_last i s 0 ∙ ap (λ (x : TilePartEntry). some ++ (x ∷ [])) (ap (entry_at s) (zero-add (row_bytes * i)) ∙ sym read) in
    new
    ∙ put_one (put table 0 some) i e (omega arith)
    ∙ ap (λ (k : ℕ). put (put table 0 some) k (e ∷ [])) (sym (zero-add i))
    ∙ put_put table 0 some (e ∷ []) i many (omega arith)
    ∙ ap (put table 0) (sym last)

pub stored_row : {now next : List ℕ} {at : ℕ} (lent : List ℕ) (table : List TilePartEntry) (d : TilePartEntry) (i : ℕ) → i < length table → row_bytes * (i + 1) ≤ length lent
    → now ≡ put lent 0 (rows_of (take i table)) → at ≡ row_bytes * i → next ≡ put now at (row_of (get_or table i d)) → next ≡ put lent 0 (rows_of (take (i + 1) table))
stored_row {now} {next} {at} lent table d i h fits so_far here new =
    let e : TilePartEntry = get_or table i d in
    let some : List ℕ = rows_of (take i table) in
    let many : length (take i table) ≡ i = length-take-le i table (omega arith) in
    let long : length some ≡ row_bytes * i = length_rows (take i table) ∙ ap (λ (n : ℕ). row_bytes * n) many in
    let one : rows_of (e ∷ []) ≡ row_of e = rows_more e [] ∙ ap (λ (l : List ℕ). row_of e ++ l) rows_none ∙ append-nil (row_of e) in
    let last : rows_of (take (i + 1) table) ≡ some ++ row_of e =
    ap (λ (n : ℕ). rows_of (take n table)) (add-one i) ∙ ap rows_of (take-suc table i d h) ∙ all_append rows (take i table) (e ∷ []) ∙ ap (λ (l : List ℕ). some ++ l) one in
    new
    ∙ ap₂ (λ (l : List ℕ) (k : ℕ). put l k (row_of e)) so_far (here ∙ sym (zero-add (row_bytes * i)))
    ∙ put_put lent 0 some (row_of e) (row_bytes * i) long (omega (arith, length_row e))
    ∙ ap (put lent 0) (sym last)

-- ---- what is held of a lent table

pub length_own : (table : List ℕ) → length (own table) ≡ held table
length_own table = length_at (held table) table 0

first_of : (xs ys : List TilePartEntry) (n : ℕ) → length xs ≡ n → take n (xs ++ ys) ≡ xs
first_of xs ys n h = ap (λ (k : ℕ). take k (xs ++ ys)) (sym h) ∙ take-append_seam xs ys

-- so many were counted, and loaded
module _ (table : List ℕ) {count : ℕ} {loaded : List TilePartEntry} (counted : count ≡ held table) (filled : loaded ≡ put blank 0 (records_at count table 0)) where
  pub all_held : min count 2048 ≡ held table
  all_held = omega arith

  pub lent_own : take (min count 2048) loaded ≡ own table
  lent_own =
      ap₂ (λ (k : ℕ) (es : List TilePartEntry). take k es) all_held (filled ∙ ap (λ (k : ℕ). put blank 0 (records_at k table 0)) counted ∙ put_start blank (own table))
      ∙ first_of (own table) (drop (length (own table)) blank) (held table) (length_own table)

  -- a call was lent these, and left others in their place
  pub left_own : {left kept xs : List TilePartEntry} → left ≡ kept ++ drop (min count 2048) loaded → kept ≡ xs → length xs ≡ length (own table) → take count left ≡ xs
  left_own {left} {kept} {xs} e k h =
      let rest : List TilePartEntry = drop (min count 2048) loaded in
      ap (take count) (e ∙ ap (λ (es : List TilePartEntry). es ++ rest) k) ∙ first_of xs rest count (h ∙ length_own table ∙ sym counted)
