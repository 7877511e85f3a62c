-- What was counted and the parts from here on are all parts; each turn is one step of the chain.
use native.Mathlib.Nat.{zero-add}
use native.Mathlib.Omega.{arith}
use mathlib.Core.Path.{◌≡◌, sym, ap, ◌∙◌}
use lib.ListN.{length}
use Rattle.std.specs.Prelude.{Some}
use Rattle.parts.proofs.SplitLaws.{part_inside, parts_on, parts_ended}
use Rattle.parts.specs.Split.{split_step_at, parts_of}
use Rattle.parts.proofs.split.split_count.Goals as goal
use Rattle.parts.proofs.split.split_count.Goals.{In-Some}

-- the step's answer taken apart: the part that stands here
found : (c : In-Some) → split_step_at c.args.tile.now c.loop-end.at ≡ Some c.in-Some.end
found c = sym c.split_step.ensures ∙ c.in-Some.is

pub loop-end-init : goal.loop-end-init
unfolding parts_of
loop-end-init c = (omega arith, omega arith, zero-add _)

pub split_step-requires : goal.split_step-requires
split_step-requires c = c.loop-end.invariant.0

pub returns-in_default : goal.returns-in_default
returns-in_default c =
    let none = parts_ended _ _ (sym c.split_step.ensures ∙ c.in_default.is) in
    omega (arith, ap length none, c.loop-end.invariant.2)

pub overflow_add-count : goal.overflow_add-count
overflow_add-count c = let h = part_inside _ _ _ (found (goal.at.overflow_add-count c).In-Some) in omega arith

pub loop-end-smaller : goal.loop-end-smaller
loop-end-smaller c = let h = part_inside _ _ _ (found (goal.at.loop-end-smaller c).In-Some) in omega arith

pub loop-end-preserved : goal.loop-end-preserved
loop-end-preserved c =
    let f = found (goal.at.loop-end-preserved c).In-Some in
    let h = part_inside _ _ _ f in
    (omega arith, omega arith, omega (arith, ap length (parts_on _ _ _ f)))
