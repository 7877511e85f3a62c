-- All records of a blank table are lent.
use mathlib.Core.Path.{◌∙◌}
use mathlib.Core.List.{append-nil}
use Rattle.records.proofs.Answers.{take_blank, drop_blank}
use Rattle.records.proofs.tables.header_table.Goals as goal

pub returns-clause-table_value : goal.returns-clause-table_value
returns-clause-table_value c = c.header_into.ensures.table_value ∙ rw (c.new_table.ensures, take_blank, drop_blank) (append-nil _)
