-- What the reading of the main header leaves in a table of records; its answer and its output are those of crate header, whose rows are the table's records.
use Rattle.std.specs.Prelude.{ℕ, List, ◌++◌, drop, Result, Ok, Err}
use Rattle.types.specs.declared.TilePartEntry.{TilePartEntry}
use Rattle.header.specs.Parse.{table_by}
use Rattle.header.specs.declared.numbering.Numbering.{Numbering}
use Rattle.header.specs.declared.parse.MainHeaderInfo.{MainHeaderInfo}
use Rattle.types.specs.declared.Refusal.{Refusal}

-- the table after an answer: the records and the rest as it was, or all as it was
unfoldable pub records_after : Numbering → Result MainHeaderInfo Refusal → List ℕ → List TilePartEntry → List TilePartEntry
records_after n (Ok h) s table = table_by n s ++ drop h.tlm_entries table
records_after n (Err r) s table = table
