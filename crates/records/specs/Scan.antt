-- What the scan leaves in a table of records (docs/RULES.md, "SOT scan"); its answer is that of crate parts, whose rows are the table's records.
use Rattle.std.specs.Prelude.{ℕ, List, ◌++◌, length, drop, Result, Ok, Err}
use Rattle.types.specs.declared.TilePartEntry.{TilePartEntry}
use Rattle.parts.specs.Scan.{entries_from, scanned}
use Rattle.types.specs.declared.Refusal.{Refusal}

-- the table after an answer: the records and the rest as it was, or all as it was
unfoldable pub written : Result ℕ Refusal → List TilePartEntry → List TilePartEntry → List TilePartEntry
written (Ok n) entries table = entries ++ drop n table
written (Err r) entries table = table

unfoldable pub scanned_records : List ℕ → ℕ → List TilePartEntry → List TilePartEntry
scanned_records s start table = written (scanned s start (length table)) (entries_from s start) table
