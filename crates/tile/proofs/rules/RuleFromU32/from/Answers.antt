-- The tests are the definition's.
use borrow.Author.Tests.{eq-eqb, ne_eqb}
use Rattle.tile.specs.Rules.{rule_of}
use Rattle.tile.proofs.rules.RuleFromU32.from.Goals as goal

pub returns-then-number-eq1 : goal.returns-then-number-eq1
unfolding rule_of
returns-then-number-eq1 c = rw (eq-eqb _ _ c.if-number-eq1.true)

pub returns-then-number-eq2 : goal.returns-then-number-eq2
unfolding rule_of
returns-then-number-eq2 c = rw (ne_eqb _ _ c.if-number-eq1.false, eq-eqb _ _ c.if-number-eq2.true)

pub returns-else-number-eq2 : goal.returns-else-number-eq2
unfolding rule_of
returns-else-number-eq2 c = rw (ne_eqb _ _ c.if-number-eq1.false, ne_eqb _ _ c.if-number-eq2.false)
