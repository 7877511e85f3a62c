-- A table of records and the same table as rows of 21 bytes: the functions that write rows and those that write records answer alike, and leave the
-- same table. The rows are 21 times as many bytes as there are records, and what stands after n rows are the rows of what stands after n records.
use Prim.Native.Nat.{ℕ, ◌*◌, ◌/◌}
use native.Mathlib.Omega.{arith}
use mathlib.Core.Path.{◌≡◌, refl, sym, ap, ◌∙◌}
use mathlib.Core.List.{List, ◌++◌}
use lib.ListN.{length, drop}
use Rattle.std.specs.Prelude.{Result, Ok, Err}
use Rattle.types.specs.Row.{row_bytes, rows_of, records_in}
use Rattle.types.specs.declared.TilePartEntry.{TilePartEntry}
use Rattle.types.proofs.RowReading.{All, records_back}
use Rattle.parts.specs.Order.{in_order}
use Rattle.types.proofs.RowLaws.{Fits, length_rows}
use Rattle.types.proofs.RowStanding.{rows, all_append, all_drop}
use Rattle.header.specs.Parse.{parsed, table_by, table_after}
use Rattle.header.specs.declared.numbering.Numbering.{Numbering}
use Rattle.header.specs.declared.reading.Reading.{Reading}
use Rattle.parts.specs.Scan.{entries_from, scanned, scanned_table}
use Rattle.index.specs.Extend.{extended, index_after, scratch_after}
use Rattle.records.specs.MainHeader.{records_after}
use Rattle.records.specs.Scan.{scanned_records}
use Rattle.parts.specs.Scan as parts
use Rattle.records.specs.Scan as records
use Rattle.header.specs.declared.parse.MainHeaderInfo.{MainHeaderInfo}
use Rattle.types.specs.declared.Refusal.{Refusal}

-- as many rows as records
pub rows_count : (t : List TilePartEntry) → length (rows_of t) / row_bytes ≡ length t
rows_count t = omega (arith, length_rows t)

-- records, and the rest of a table after n of its own
pub rows_over : (es : List TilePartEntry) (n : ℕ) (t : List TilePartEntry) → rows_of es ++ drop (row_bytes * n) (rows_of t) ≡ rows_of (es ++ drop n t)
rows_over es n t = ap (λ (rest : List ℕ). rows_of es ++ rest) (all_drop rows n t) ∙ sym (all_append rows es (drop n t))

-- ---- the scan

pub scan_agrees : (s : List ℕ) (start : ℕ) (t : List TilePartEntry) → scanned s start (length (rows_of t) / row_bytes) ≡ scanned s start (length t)
scan_agrees s start t = ap (scanned s start) (rows_count t)

written_agrees : (a : Result ℕ Refusal) (es t : List TilePartEntry) → parts.written a es (rows_of t) ≡ rows_of (records.written a es t)
unfolding parts.written records.written
written_agrees (Ok n) es t = rows_over es n t
written_agrees (Err r) es t = refl

pub scan_table_agrees : (s : List ℕ) (start : ℕ) (t : List TilePartEntry) → scanned_table s start (rows_of t) ≡ rows_of (scanned_records s start t)
unfolding scanned_table scanned_records
scan_table_agrees s start t =
    ap (λ (a : Result ℕ Refusal). parts.written a (entries_from s start) (rows_of t)) (scan_agrees s start t)
    ∙ written_agrees (scanned s start (length t)) (entries_from s start) t

-- ---- the main header; what is left in the output is given by the answer, alike for both

pub header_agrees : (how : Reading) (s : List ℕ) (t : List TilePartEntry) (room : ℕ) → parsed how s (length (rows_of t) / row_bytes) room ≡ parsed how s (length t) room
header_agrees how s t room = ap (λ (m : ℕ). parsed how s m room) (rows_count t)

pub header_table_agrees : (n : Numbering) (a : Result MainHeaderInfo Refusal) (s : List ℕ) (t : List TilePartEntry)
    → table_after n a s (rows_of t) ≡ rows_of (records_after n a s t)
unfolding table_after records_after
header_table_agrees n (Ok h) s t = rows_over (table_by n s) h.tlm_entries t
header_table_agrees n (Err r) s t = refl

-- ---- the order of a tile's tile-parts

pub order_agrees : (tile : ℕ) {t : List TilePartEntry} → All Fits t → in_order tile (records_in (rows_of t)) ≡ in_order tile t
order_agrees tile fits = ap (in_order tile) (records_back fits)

-- ---- the index by tile; what is left of index and scratch is given by the answer and the records, alike for both

pub index_answer_agrees : (t : List TilePartEntry) (have room scratch : ℕ) → extended (length (rows_of t) / row_bytes) have room scratch ≡ extended (length t) have room scratch
index_answer_agrees t have room scratch = ap (λ (n : ℕ). extended n have room scratch) (rows_count t)

pub index_agrees : {t : List TilePartEntry} → All Fits t → (r : Result ℕ Refusal) (old : ℕ) (index : List ℕ) → index_after r (records_in (rows_of t)) old index ≡ index_after r t old index
index_agrees fits r old index = ap (λ (es : List TilePartEntry). index_after r es old index) (records_back fits)

pub scratch_agrees : {t : List TilePartEntry} → All Fits t → (r : Result ℕ Refusal) (old : ℕ) (scratch : List ℕ) → scratch_after r (records_in (rows_of t)) old scratch ≡ scratch_after r t old scratch
scratch_agrees fits r old scratch = ap (λ (es : List TilePartEntry). scratch_after r es old scratch) (records_back fits)
