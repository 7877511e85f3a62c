-- The test is the definition's.
use native.Mathlib.Omega.{arith}
use borrow.Author.Tests.{eq-eqb, ne_eqb}
use Rattle.header.specs.Edition.{edition_of}
use Rattle.header.proofs.edition.EditionFromU32.from.Goals as goal

pub returns-then-number-eq1 : goal.returns-then-number-eq1
unfolding edition_of
returns-then-number-eq1 c = rw (eq-eqb c.args.number 1 (omega (arith, c.if-number-eq1.true)))

pub returns-else-number-eq1 : goal.returns-else-number-eq1
unfolding edition_of
returns-else-number-eq1 c = rw (ne_eqb c.args.number 1 (λ e. omega (arith, c.if-number-eq1.false)))
