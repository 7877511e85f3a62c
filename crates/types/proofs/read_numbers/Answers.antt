-- The first byte chooses.
use Rattle.types.proofs.RowLaws.{numbers_none, numbers_known}
use Rattle.types.proofs.read_numbers.Goals as goal

pub returns-then-told-eq1 : goal.returns-then-told-eq1
returns-then-told-eq1 c = numbers_known _ _ c.if-told-eq1.true

pub returns-else-told-eq1 : goal.returns-else-told-eq1
returns-else-told-eq1 c = numbers_none _ _ c.if-told-eq1.false
