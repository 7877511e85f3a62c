-- The SOT scan (docs/RULES.md, "SOT scan"): the chain of its steps, its records, and what the call answers and leaves in the table.
use Rattle.std.specs.Prelude.{ℕ, ◌+◌, ◌-◌, ◌*◌, ◌/◌, Bool, cond, ◌&&◌, List, ◌++◌, map, length, drop, leb, eqb, Option, Some, None, Result, Ok, Err}
use Rattle.numbers.specs.Bytes.{be}
use Rattle.types.specs.Refusals.{refusal}
use Rattle.types.specs.Markers.{SOT, EOC}
use Rattle.types.specs.Row.{row_bytes, rows_of}
use Rattle.types.specs.Layout.{Layout}
use Rattle.types.specs.declared.Refusal.{Refusal}
use Rattle.types.specs.declared.PartNumbers.TheVariants.{Known}
use Rattle.types.specs.declared.TilePartEntry.{TilePartEntry}
use Rattle.chain.specs.Chain.{Move, end, on, Visit, Chain, chain}
use Rattle.parts.specs.Sot.{lsot, isot, psot, tpsot, tnsot}
use Rattle.types.specs.declared.Reason.TheVariants.{TilePartCutShort, SotLengthWrong, TilePartPastEnd, TableTooSmall}

-- the record of a tile-part of n bytes
abbrev pub entry_of : List ℕ → ℕ → ℕ → TilePartEntry
entry_of s at n = record { tile_index = isot s at; numbers = Known (tpsot s at) (tnsot s at); offset = record { 0 = at }; length = n }

-- EOC stands there, both bytes of it
unfoldable pub eoc_at : List ℕ → ℕ → Bool
eoc_at s at = leb (at + 2) (length s) && eqb (be 2 s at) EOC

-- the record that an SOT gives: Psot 0 is to the codestream's end, otherwise Psot bytes
abbrev pub part_at : List ℕ → ℕ → TilePartEntry
part_at s at = entry_of s at (cond (eqb (psot s at) 0) (length s - at) (psot s at))

-- at an SOT: 8; Psot 0, to the codestream's end; 9; otherwise Psot bytes, 1 to 11 too
unfoldable pub sot_step_at : List ℕ → ℕ → Result (Option TilePartEntry) Refusal
sot_step_at s at =
    cond (eqb (lsot s at) 10)
    (cond (eqb (psot s at) 0) (Ok (Some (entry_of s at (length s - at))))
    (cond (leb (at + psot s at) (length s)) (Ok (Some (entry_of s at (psot s at)))) (Err (refusal TilePartPastEnd at))))
    (Err (refusal SotLengthWrong at))

-- while inside: EOC ends it; then 7; then another marker than SOT ends it
unfoldable pub scan_step_at : List ℕ → ℕ → Result (Option TilePartEntry) Refusal
unfolding eoc_at sot_step_at
scan_step_at s at =
    cond (leb (length s) at) (Ok None)
    (cond (eoc_at s at) (Ok None)
    (cond (leb (at + 12) (length s))
    (cond (eqb (be 2 s at) SOT) (sot_step_at s at) (Ok None))
    (Err (refusal TilePartCutShort at))))

-- how a scan ends
pub data ScanEnd : Type 0 where
  ended : ScanEnd
  refused : Refusal → ScanEnd

-- a tile-part is passed
unfoldable pub move_of : Result (Option TilePartEntry) Refusal → Move ScanEnd
move_of (Ok (Some e)) = on (e.offset.0 + e.length)
move_of (Ok None) = end ended
move_of (Err r) = end (refused r)

unfoldable pub move_at : List ℕ → ℕ → Move ScanEnd
move_at s at = move_of (scan_step_at s at)

-- the scan from a position on
unfoldable pub scan_from : List ℕ → ℕ → Chain ScanEnd
scan_from s at = chain ended (move_at s) (length s) at

-- its records: one for each tile-part passed
abbrev pub recorded : List ℕ → Visit → TilePartEntry
recorded s v = entry_of s v.at (v.next - v.at)

unfoldable pub entries_from : List ℕ → ℕ → List TilePartEntry
entries_from s at = map (recorded s) (scan_from s at).visits

-- a scan's answer for each way that it ends after so many records
unfoldable pub ended_as : ScanEnd → ℕ → Result ℕ Refusal
ended_as ended n = Ok n
ended_as (refused r) n = Err r

unfoldable pub judged : Chain ScanEnd → Result ℕ Refusal
unfolding ended_as
judged c = ended_as c.ended (length c.visits)

-- 18 comes last, only where all else accepts; its place is the entries needed
unfoldable pub with_room : ℕ → Result ℕ Refusal → Result ℕ Refusal
with_room rows (Ok n) = cond (leb n rows) (Ok n) (Err (refusal TableTooSmall n))
with_room rows (Err r) = Err r

-- the answer of a scan from a start into a table of so many rows
unfoldable pub scanned : List ℕ → ℕ → ℕ → Result ℕ Refusal
scanned s start rows = with_room rows (judged (scan_from s start))

-- the table after an answer: the records' rows and the rest as it was, or all as it was
unfoldable pub written : Result ℕ Refusal → List TilePartEntry → List ℕ → List ℕ
written (Ok n) entries table = rows_of entries ++ drop (row_bytes * n) table
written (Err r) entries table = table

unfoldable pub scanned_table : List ℕ → ℕ → List ℕ → List ℕ
scanned_table s start table = written (scanned s start (length table / row_bytes)) (entries_from s start) table

-- the same of a table of records in any layout
unfoldable pub written_in : {B : Type 0} {width : ℕ} → Layout B width → Result ℕ Refusal → List TilePartEntry → List B → List B
written_in {width = width} L (Ok n) entries table = L.all entries ++ drop (width * n) table
written_in L (Err r) entries table = table

unfoldable pub scanned_in : {B : Type 0} {width : ℕ} → Layout B width → List ℕ → ℕ → List B → List B
scanned_in {width = width} L s start table = written_in L (scanned s start (length table / width)) (entries_from s start) table
