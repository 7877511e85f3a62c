-- What a call leaves in the table of records is one replacement from its start, or the table as it was.
use Prim.Native.Nat.{ℕ}
use native.Mathlib.Nat.{one-mul, div-one}
use native.Mathlib.Omega.{arith}
use mathlib.Core.Path.{◌≡◌, refl, sym, ap, ◌∙◌}
use mathlib.Core.List.{List, [], ◌++◌}
use lib.ListN.{length, take, drop, length-replicate, drop_of_length-le}
use lib.Seq.{take_all}
use Rattle.std.specs.Prelude.{Result, Ok, Err}
use Rattle.numbers.specs.Bytes.{put}
use Rattle.numbers.proofs.BytesLaws.{length_put}
use Rattle.types.specs.declared.Refusal.{Refusal}
use Rattle.types.specs.declared.TilePartEntry.{TilePartEntry}
use Rattle.types.specs.Layout as layout
use Rattle.parts.specs.Scan.{entries_from, scanned, written_in, scanned_in}
use Rattle.parts.proofs.ScanAnswers.{answer_counts, kept_in, filled_in}
use Rattle.header.specs.Tlm.{placed}
use Rattle.header.specs.Walk.{walk_from}
use Rattle.header.specs.Numbering.{entries_by}
use Rattle.header.specs.Parse.{parsed, table_by, table_in}
use Rattle.header.specs.declared.reading.Reading.{Reading}
use Rattle.header.specs.declared.numbering.Numbering.{Numbering}
use Rattle.header.specs.declared.parse.MainHeaderInfo.{MainHeaderInfo}
use Rattle.header.proofs.ParseLaws.{Read, table_put, parsed_decided}
use Rattle.header.proofs.TlmLaws.{length_placed}
use Rattle.records.specs.MainHeader.{records_after}
use Rattle.records.specs.Scan.{written, scanned_records}
use Rattle.records.specs.Tables.{none, blank}

-- ---- the scan

written_records : (a : Result ℕ Refusal) (es table : List TilePartEntry) → written_in layout.records a es table ≡ written a es table
unfolding written_in written
written_records (Ok n) es table = ap (λ (m : ℕ). es ++ drop m table) (one-mul n)
written_records (Err r) es table = refl

module _ (s : List ℕ) (start : ℕ) (table : List TilePartEntry) where
  -- a record is one item
  pub scan_records : scanned_in layout.records s start table ≡ scanned_records s start table
  unfolding scanned_in scanned_records
  scan_records =
      ap (λ (n : ℕ). written_in layout.records (scanned s start n) (entries_from s start) table) (div-one (length table))
      ∙ written_records (scanned s start (length table)) (entries_from s start) table

  -- a refusal leaves the table
  pub table_kept : (r : Refusal) → scanned s start (length table) ≡ Err r → scanned_records s start table ≡ table
  table_kept r e =
      sym scan_records ∙ kept_in layout.records s start table r (ap (scanned s start) (div-one (length table)) ∙ e)

  -- otherwise it starts with the records
  pub table_filled : (n : ℕ) → scanned s start (length table) ≡ Ok n → scanned_records s start table ≡ put table 0 (entries_from s start)
  table_filled n e =
      sym scan_records
      ∙ filled_in layout.records s start table n (ap (scanned s start) (div-one (length table)) ∙ e) (sym (answer_counts s start (length table) n e).0)

  -- it keeps its length
  length_by : (a : Result ℕ Refusal) → scanned s start (length table) ≡ a → length (scanned_records s start table) ≡ length table
  length_by (Ok n) e =
      ap length (table_filled n e)
      ∙ length_put table 0 (entries_from s start) (omega (arith, answer_counts s start (length table) n e))
  length_by (Err r) e = ap length (table_kept r e)

  pub length_scanned : length (scanned_records s start table) ≡ length table
  length_scanned = length_by (scanned s start (length table)) refl

-- ---- the main header

-- a record is one item
pub header_records : (n : Numbering) (a : Result MainHeaderInfo Refusal) (s : List ℕ) (table : List TilePartEntry)
    → table_in layout.records n a s table ≡ records_after n a s table
unfolding table_in records_after
header_records n (Ok h) s table = ap (λ (m : ℕ). table_by n s ++ drop m table) (one-mul h.tlm_entries)
header_records n (Err r) s table = refl

-- accepted, it starts with the records of the TLM entries
pub records_put : (n : Numbering) (s : List ℕ) (h : MainHeaderInfo) → Read s h → (table : List TilePartEntry)
    → put table 0 (placed h.first_sot_offset.0 (entries_by n s 0 (walk_from s 2).visits)) ≡ records_after n (Ok h) s table
records_put n s h r table = table_put s h r layout.records n table ∙ header_records n (Ok h) s table

-- a table keeps its length
after_by : (how : Reading) (s : List ℕ) (table : List TilePartEntry) (room : ℕ) (a : Result MainHeaderInfo Refusal) → parsed how s (length table) room ≡ a
    → length (records_after how.numbering a s table) ≡ length table
unfolding records_after
after_by how s table room (Ok h) e =
    let d = parsed_decided how s (length table) room h e in
    let entries = entries_by how.numbering s 0 (walk_from s 2).visits in
    let from = h.first_sot_offset.0 in
    ap length (sym (records_put how.numbering s h d.read table))
    ∙ length_put table 0 (placed from entries) (omega (arith, d.many, length_placed from entries))
after_by how s table room (Err r) e = refl

pub length_after : (how : Reading) (s : List ℕ) (table : List TilePartEntry) (room : ℕ)
    → length (records_after how.numbering (parsed how s (length table) room) s table) ≡ length table
length_after how s table room = after_by how s table room (parsed how s (length table) room) refl

-- ---- a program's own table

pub length_blank : length blank ≡ 2048
unfolding blank
length_blank = length-replicate 2048 none

-- all of it, and nothing behind
pub take_blank : take 2048 blank ≡ blank
take_blank = take_all 2048 blank (omega (arith, length_blank))

pub drop_blank : drop 2048 blank ≡ []
drop_blank = drop_of_length-le blank {i = 2048} (omega (arith, length_blank))
