-- A table of rows.
use mathlib.Core.Path.{◌∙◌}
use Rattle.header.proofs.ParseLaws.{table_rows}
use Rattle.header.proofs.parse.parse_main_header.Goals as goal

pub returns-clause-table_after : goal.returns-clause-table_after
returns-clause-table_after c = c.parse_into.ensures.table_after ∙ table_rows _ _ _ _
