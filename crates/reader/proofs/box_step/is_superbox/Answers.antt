-- The type is compared with each of the three.
use borrow.Author.Tests.{eq-eqb, ne_eqb}
use Rattle.reader.specs.BoxStep.{opens}
use Rattle.reader.proofs.box_step.is_superbox.Goals as goal

pub returns-then-kind-eq-JP2H : goal.returns-then-kind-eq-JP2H
unfolding opens
returns-then-kind-eq-JP2H c = rw (eq-eqb _ _ c.if-kind-eq-JP2H.true)

pub returns-then-kind-eq-RES : goal.returns-then-kind-eq-RES
unfolding opens
returns-then-kind-eq-RES c = rw (ne_eqb _ _ c.if-kind-eq-JP2H.false, eq-eqb _ _ c.if-kind-eq-RES.true)

pub returns-else-kind-eq-RES : goal.returns-else-kind-eq-RES
unfolding opens
returns-else-kind-eq-RES c = rw (ne_eqb _ _ c.if-kind-eq-JP2H.false, ne_eqb _ _ c.if-kind-eq-RES.false)
