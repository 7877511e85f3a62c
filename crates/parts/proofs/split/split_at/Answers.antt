-- At each return the step's answer, or the position past the end, says which part stands there.
use native.Mathlib.Omega.{arith}
use mathlib.Core.Path.{◌≡◌, sym, ◌∙◌}
use borrow.Author.Rules.{rules}
use Rattle.std.specs.Prelude.{Some}
use Rattle.parts.proofs.SplitLaws.{step_few, part_inside, standing_none, standing_part}
use Rattle.parts.specs.Split.{split_step_at}
use Rattle.parts.proofs.split.split_at.Goals as goal
use Rattle.parts.proofs.split.split_at.Goals.{In-Some}

-- the step's answer taken apart: the part that stands here
found : (c : In-Some) → split_step_at c.args.tile.now c.args.at ≡ Some c.in-Some.end
found c = sym c.split_step.ensures ∙ c.in-Some.is

pub returns-then-tile-at : goal.returns-then-tile-at
returns-then-tile-at c = sym (standing_none _ _ (step_few _ _ (omega arith)))

pub returns-in_default : goal.returns-in_default
returns-in_default c = sym (standing_none _ _ (sym c.split_step.ensures ∙ c.in_default.is))

pub slice_bounds-result-count : goal.slice_bounds-result-count
slice_bounds-result-count c = let h = part_inside _ _ _ (found (goal.at.slice_bounds-result-count c).In-Some) in omega arith

pub slice_bounds-result-start : goal.slice_bounds-result-start
slice_bounds-result-start c = let h = part_inside _ _ _ (found (goal.at.slice_bounds-result-start c).In-Some) in search rules

pub slice_bounds-result-end-2 : goal.slice_bounds-result-end-2
slice_bounds-result-end-2 c = let h = part_inside _ _ _ (found (goal.at.slice_bounds-result-end-2 c).In-Some) in search rules

pub returns : goal.returns
returns c = sym (standing_part _ _ _ (found (goal.at.returns c).In-Some))
