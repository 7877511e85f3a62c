-- Where the last sum fits 32 bits those before it do, and the tests are the definition's.
use native.Mathlib.Omega.{arith}
use mathlib.Core.Path.{sym, ◌∙◌}
use Rattle.std.specs.Prelude.{Some}
use Prim.Native.Nat.{◌+◌, ◌*◌, min}
use mathlib.Core.Path.{◌≡◌}
use Rattle.tile.proofs.OriginalLaws.{axis_inside, axis_below, axis_passes}
use Rattle.tile.proofs.original.span.Goals as goal

pub returns-in_err-along : goal.returns-in_err-along
returns-in_err-along c = c.from_residual.ensures ∙ sym (axis_passes _ _ _ _ (omega (arith, c.in_err-along.ensures)))

pub returns-in_err-from : goal.returns-in_err-from
returns-in_err-from c = c.from_residual-in_err-from.ensures ∙ sym (axis_passes _ _ _ _ (omega (arith, c.in_ok-along.ensures, c.in_err-from.ensures)))

pub returns-in_err-checked_add : goal.returns-in_err-checked_add
returns-in_err-checked_add c =
    c.from_residual-in_err-checked_add.ensures
    ∙ sym (axis_passes _ _ _ _ (omega (arith, c.in_ok-along.ensures, c.in_ok-from.ensures, c.in_err-checked_add.ensures)))

pub returns-then-to-from : goal.returns-then-to-from
returns-then-to-from c =
    sym
    (axis_below _ _ _ _
    (omega (arith, c.in_ok-along.ensures, c.in_ok-from.ensures, c.in_ok-checked_add.ensures))
    (omega (arith, c.in_ok-along.ensures, c.in_ok-from.ensures, c.in_ok-checked_add.ensures)))

pub returns : goal.returns
returns c =
    let a = c.args in
    let from : c.in_ok-from.from ≡ a.origin + a.cell * a.size = omega (arith, c.in_ok-along.ensures, c.in_ok-from.ensures) in
    let to : c.min-to.result ≡ min (a.origin + a.cell * a.size + a.size) a.end = omega (arith, c.in_ok-checked_add.ensures) in
    (λ i. Some (record { from = from i; to = to i }))
    ∙ sym (axis_inside _ _ _ _ (omega (arith, c.in_ok-checked_add.ensures)) (omega arith))
