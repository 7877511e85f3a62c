-- One record, 2,048 times.
use mathlib.Core.Path.{refl}
use Rattle.records.specs.Tables.{blank}
use Rattle.records.proofs.tables.new_table.Goals as goal

pub returns : goal.returns
unfolding blank
returns c = refl
