-- The tests, in the definition's order, and with its numbers.
use borrow.Author.Tests.{eq-eqb, ne_eqb, le-leb, lt-leb}
use Rattle.header.specs.Step.{delimits}
use Rattle.header.proofs.step.is_delimiter.Goals as goal

pub returns-then-low-eq146 : goal.returns-then-low-eq146
unfolding delimits
returns-then-low-eq146 c = rw (eq-eqb _ 0x92 c.if-low-eq146.true)

pub returns-then-low-ge48 : goal.returns-then-low-ge48
unfolding delimits
returns-then-low-ge48 c = rw (ne_eqb _ 0x92 c.if-low-eq146.false, le-leb 0x30 _ c.if-low-ge48.true)

pub returns-else-low-ge48 : goal.returns-else-low-ge48
unfolding delimits
returns-else-low-ge48 c = rw (ne_eqb _ 0x92 c.if-low-eq146.false, lt-leb 0x30 _ c.if-low-ge48.false)
