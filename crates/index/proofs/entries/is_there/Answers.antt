-- The number is below that of the rows, and the tile read there is that of the record that the key says; or there is no such record.
use Rattle.index.proofs.EntriesLaws.{numbered, not_numbered}
use Rattle.index.proofs.entries.is_there.Goals as goal

pub returns-then-number-table : goal.returns-then-number-table
returns-then-number-table c = numbered _ _ c.number_of-number.ensures c.if-number-table.true c.read_u16.ensures

pub returns : goal.returns
returns c = not_numbered _ _ c.number_of-number.ensures c.if-number-table.false
