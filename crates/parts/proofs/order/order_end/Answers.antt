-- At each return the tests that led there choose the case of the definition.
use Prim.Native.Nat.{ℕ}
use mathlib.Core.Path.{sym, ap, ◌∙◌}
use mathlib.Core.Bool.{not}
use lib.Dec.{eqb}
use Rattle.parts.proofs.OrderLaws.{end_none, end_silent, end_given}
use Rattle.parts.proofs.order.order_end.Goals as goal

pub returns-then-due-eq0 : goal.returns-then-due-eq0
returns-then-due-eq0 c = sym (end_silent _ c.if-due-ne0.true c.if-due-eq0.true)

pub returns-else-due-eq0 : goal.returns-else-due-eq0
returns-else-due-eq0 c = rw c.from.ensures (sym (end_given c.args.due c.if-due-ne0.true c.if-due-eq0.false))

pub returns-else-due-ne0 : goal.returns-else-due-ne0
returns-else-due-ne0 c = ap (λ (n : ℕ). not (eqb n 0)) c.if-due-ne0.false ∙ sym (end_none _ c.if-due-ne0.false)
