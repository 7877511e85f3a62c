-- The tests that led to each answer are the definition's; no more columns than the image has points.
use Prim.Native.Nat.{ℕ, ◌-◌, ◌<◌}
use native.Mathlib.Omega.{arith}
use native.Mathlib.Nat.{le-mul_of_pos_right}
use mathlib.Core.Path.{sym, ◌∙◌}
use Rattle.tile.proofs.OriginalLaws.{columns_below, columns_none, columns_some}
use Rattle.numbers.proofs.BytesLaws.{ceil_least}
use Rattle.tile.proofs.original.columns.Goals as goal
use Rattle.tile.proofs.original.columns.Goals.{then-end-origin-via-then-end-origin, then-end-origin-via-else-end-origin+then-size-eq0}

pub returns-then-end-origin : goal.returns-then-end-origin
returns-then-end-origin c =
    elim c.then-end-origin.branch [
      | then-end-origin-via-then-end-origin w ↦ sym (columns_below _ _ _ w.if-end-origin.true)
      | then-end-origin-via-else-end-origin+then-size-eq0 w ↦ sym (columns_none _ _ _ w.if-end-origin.false w.if-size-eq0.true)
    ]

pub overflow_cast-result : goal.overflow_cast-result
overflow_cast-result c =
    let n : ℕ = c.args.end - c.args.origin in
    let some : 0 < c.args.size = omega (arith, c.if-size-eq0.false) in
    omega (arith, c.ceil_div.ensures, ceil_least n n some (le-mul_of_pos_right n some))

pub returns : goal.returns
returns c = c.ceil_div.ensures ∙ sym (columns_some _ _ _ c.if-end-origin.false c.if-size-eq0.false)
