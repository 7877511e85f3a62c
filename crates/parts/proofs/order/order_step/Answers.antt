-- At each return the tests that led there choose the case of the definition.
use Prim.Native.Nat.{ℕ, ◌+◌}
use mathlib.Core.Path.{sym, ap, ◌∙◌}
use Rattle.std.specs.Prelude.{Option, Some}
use Rattle.parts.specs.declared.order.Due.{Due}
use Rattle.parts.specs.Order.{due_of}
use Rattle.parts.proofs.OrderLaws.{step_other, step_unknown, step_late, step_silent, step_first, step_again, step_another}
use Rattle.parts.proofs.order.order_step.Goals as goal
use Rattle.parts.proofs.order.order_step.Goals.{then-tnsot-ne0+else-given-ne0, else-given-ne0-via-then-given-ne0+else-given-tnsot, else-given-ne0-via-else-given-ne0, else-tnsot-ne0}

pub returns-then-entry-tile : goal.returns-then-entry-tile
returns-then-entry-tile c = sym (step_other _ _ _ c.if-entry-tile.true)

pub returns-in_default : goal.returns-in_default
returns-in_default c = sym (step_unknown _ _ _ c.if-entry-tile.false c.in_default.is)

pub returns-then-from-due : goal.returns-then-from-due
returns-then-from-due c =
    sym (step_late _ _ _ c.if-entry-tile.false _ _ c.in-Known.is (λ h. c.if-from-due.true (c.from.ensures ∙ h)))

pub returns-then-given-tnsot : goal.returns-then-given-tnsot
returns-then-given-tnsot c =
    let here = sym c.from.ensures ∙ c.if-from-due.false in
    sym
    (step_another _ _ _ c.if-entry-tile.false _ _ c.in-Known.is here c.if-tnsot-ne0.true c.if-given-ne0.true
    (λ h. c.if-given-tnsot.true (sym h)))

pub returns : goal.returns
returns c =
    let with : ℕ → Option Due = λ g. Some (due_of (c.args.due.passed + 1) g) in
    let here = sym c.from.ensures ∙ c.if-from-due.false in
    elim c.if-tnsot-ne0.branch [
      | else-tnsot-ne0 w ↦ ap with w.given-is ∙ sym (step_silent _ _ _ c.if-entry-tile.false _ _ c.in-Known.is here w.if-tnsot-ne0.false)
      | then-tnsot-ne0+else-given-ne0 w ↦ elim w.else-given-ne0.branch [
        | else-given-ne0-via-then-given-ne0+else-given-tnsot told ↦
            ap with (w.given-is ∙ sym told.if-given-tnsot.false)
            ∙ sym
            (step_again _ _ _ c.if-entry-tile.false _ _ c.in-Known.is here w.if-tnsot-ne0.true told.if-given-ne0.true (sym told.if-given-tnsot.false))
        | else-given-ne0-via-else-given-ne0 none ↦
            ap with w.given-is
            ∙ sym (step_first _ _ _ c.if-entry-tile.false _ _ c.in-Known.is here w.if-tnsot-ne0.true none.if-given-ne0.false)
      ]
    ]
