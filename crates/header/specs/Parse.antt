-- The whole reading of the main header: its answer, and what it leaves in the lent table and output (docs/RULES.md, "Main header").
use Rattle.std.specs.Prelude.{ℕ, ◌+◌, ◌*◌, Bool, cond, ◌&&◌, List, ◌++◌, length, drop, leb, eqb, Result, Ok, Err, ⊤}
use Rattle.numbers.specs.Bytes.{be}
use Rattle.types.specs.Refusals.{refusal}
use Rattle.types.specs.Markers.{SOC, SIZ}
use Rattle.types.specs.Row.{row_bytes, rows_of}
use Rattle.types.specs.Layout.{Layout}
use Rattle.types.specs.declared.TilePartEntry.{TilePartEntry}
use Rattle.chain.specs.Chain.{Chain}
use Rattle.header.specs.Tlm.{placed}
use Rattle.header.specs.Walk.{WalkEnd, at_first_sot, refused, walk_from}
use Rattle.header.specs.Strip.{fillers, decode_header, tlm_entries}
use Rattle.header.specs.Numbering.{entries_by, ended_by}
use Rattle.header.specs.Edition.{in_edition}
use Rattle.header.specs.declared.numbering.Numbering.{Numbering}
use Rattle.header.specs.declared.reading.Reading.{Reading}
use Rattle.header.specs.declared.parse.MainHeaderInfo.{MainHeaderInfo}
use Rattle.types.specs.declared.Refusal.{Refusal}
use Rattle.types.specs.declared.Reason.TheVariants.{NoSoc, NoSiz, OutputTooSmall, TableTooSmall, HeaderTooLong}

-- an accepted walk: where its first SOT stands, how long its decode header is, how many TLM entries there are (0: the table is absent), and how many
-- fillers
unfoldable pub read_as : List ℕ → Chain WalkEnd → WalkEnd → Result MainHeaderInfo Refusal
read_as s walk at_first_sot =
    Ok (record {
      first_sot_offset = record { 0 = walk.stopped };
      decode_header_length = length (decode_header s walk.visits);
      tlm_entries = length (tlm_entries s walk.visits);
      fillers = fillers s walk.visits;
    })
read_as s walk (refused r) = Err r

-- a marker stands there whole
unfoldable pub stands : List ℕ → ℕ → ℕ → Bool
stands s at marker = leb (at + 2) (length s) && eqb (be 2 s at) marker

-- before the walk: 19 is tested first; SOC at 0, SIZ at 2
unfoldable pub front_of : List ℕ → Result ⊤ Refusal
unfolding stands
front_of s =
    cond (leb (length s) 0xffff_ffff)
    (cond (stands s 0 SOC) (cond (stands s 2 SIZ) (Ok tt) (Err (refusal NoSiz 2))) (Err (refusal NoSoc 0)))
    (Err (refusal HeaderTooLong 0))

-- the walk from 2 behind a front that is sound
unfoldable pub behind_front : List ℕ → Result ⊤ Refusal → Result MainHeaderInfo Refusal
unfolding read_as
behind_front s (Ok tt) = read_as s (walk_from s 2) (walk_from s 2).ended
behind_front s (Err r) = Err r

unfoldable pub judged : List ℕ → Result MainHeaderInfo Refusal
unfolding front_of behind_front
judged s = behind_front s (front_of s)

-- the same by a numbering, which may refuse a segment that the walk passes
unfoldable pub behind_front_by : Numbering → List ℕ → Result ⊤ Refusal → Result MainHeaderInfo Refusal
unfolding read_as
behind_front_by n s (Ok tt) = read_as s (walk_from s 2) (ended_by n s 0 (walk_from s 2).visits (walk_from s 2).ended)
behind_front_by n s (Err r) = Err r

unfoldable pub judged_by : Numbering → List ℕ → Result MainHeaderInfo Refusal
unfolding front_of behind_front_by
judged_by n s = behind_front_by n s (front_of s)

-- as a reading has it: by its numbering, then in its edition
unfoldable pub judged_as : Reading → List ℕ → Result MainHeaderInfo Refusal
judged_as r s = in_edition r.edition s (judged_by r.numbering s)

-- 18, then 17, only where all else accepts
unfoldable pub with_room : ℕ → ℕ → Result MainHeaderInfo Refusal → Result MainHeaderInfo Refusal
with_room rows room (Ok h) =
    cond (leb h.tlm_entries rows) (cond (leb h.decode_header_length room) (Ok h) (Err (refusal OutputTooSmall h.decode_header_length)))
    (Err (refusal TableTooSmall h.tlm_entries))
with_room rows room (Err r) = Err r

-- the answer of a reading, for a table of so many rows and an output of so many bytes
unfoldable pub parsed : Reading → List ℕ → ℕ → ℕ → Result MainHeaderInfo Refusal
parsed r s rows room = with_room rows room (judged_as r s)

-- an answer for C: its number, 0 where it accepts; the first SOT or a refusal's place; the decode header's length, the TLM entries and the fillers, given
-- what was held

abbrev pub header_first : Result MainHeaderInfo Refusal → ℕ
header_first (Ok h) = h.first_sot_offset.0
header_first (Err r) = r.place

abbrev pub header_length : Result MainHeaderInfo Refusal → ℕ → ℕ
header_length (Ok h) held = h.decode_header_length
header_length (Err r) held = held

abbrev pub header_entries : Result MainHeaderInfo Refusal → ℕ → ℕ
header_entries (Ok h) held = h.tlm_entries
header_entries (Err r) held = held

abbrev pub header_fillers : Result MainHeaderInfo Refusal → ℕ → ℕ
header_fillers (Ok h) held = h.fillers
header_fillers (Err r) held = held

-- the records of the TLM segments, numbered from 0 in each: the first offset is the first SOT
unfoldable pub tlm_table : List ℕ → List TilePartEntry
tlm_table s = placed (walk_from s 2).stopped (tlm_entries s (walk_from s 2).visits)

-- the same by a numbering
unfoldable pub table_by : Numbering → List ℕ → List TilePartEntry
table_by n s = placed (walk_from s 2).stopped (entries_by n s 0 (walk_from s 2).visits)

-- the table after an answer: the records' rows and the rest as it was, or all as it was
unfoldable pub table_after : Numbering → Result MainHeaderInfo Refusal → List ℕ → List ℕ → List ℕ
table_after n (Ok h) s table = rows_of (table_by n s) ++ drop (row_bytes * h.tlm_entries) table
table_after n (Err r) s table = table

-- the same of a table of records in any layout
unfoldable pub table_in : {B : Type 0} {width : ℕ} → Layout B width → Numbering → Result MainHeaderInfo Refusal → List ℕ → List B → List B
table_in {width = width} L n (Ok h) s table = L.all (table_by n s) ++ drop (width * h.tlm_entries) table
table_in L n (Err r) s table = table

-- the output after an answer: the decode header and the rest as it was, or all as it was
unfoldable pub out_after : Result MainHeaderInfo Refusal → List ℕ → List ℕ → List ℕ
out_after (Ok h) s out = decode_header s (walk_from s 2).visits ++ drop h.decode_header_length out
out_after (Err r) s out = out
