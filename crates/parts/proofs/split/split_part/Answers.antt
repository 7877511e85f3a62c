-- The part that is asked for is the one so many parts after here; each turn passes one.
use Prim.Native.Nat.{ℕ, zero, suc, ◌-◌}
use native.Mathlib.Numerals.{sub-one}
use native.Mathlib.Omega.{arith}
use mathlib.Core.List.{List, [], ◌∷◌}
use mathlib.Core.Path.{◌≡◌, refl, sym, ap, ◌∙◌}
use lib.ListN.{get_or}
use borrow.Author.Rules.{rules}
use Rattle.std.specs.Prelude.{Some}
use Rattle.parts.proofs.SplitLaws.{part_inside, parts_on, parts_ended}
use Rattle.parts.specs.Split.{split_step_at, parts_of}
use Rattle.parts.proofs.split.split_part.Goals as goal
use Rattle.parts.proofs.split.split_part.Goals.{In-Some}

-- the k-th of a list, by its first
first : (k : ℕ) {p : List ℕ} {ps all : List (List ℕ)} → all ≡ p ∷ ps → k ≡ 0 → get_or all k [] ≡ p
first k e z = rw (e, z)

later : (k : ℕ) {p : List ℕ} {ps all : List (List ℕ)} → all ≡ p ∷ ps → (k ≡ 0 → ⊥) → get_or all k [] ≡ get_or ps (k - 1) []
later zero e n = absurd (n refl)
later (suc k) e n = rw (e, sub-one)

-- the step's answer taken apart: the part that stands here
found : (c : In-Some) → split_step_at c.args.tile.now c.loop-end.at ≡ Some c.in-Some.end
found c = sym c.split_step.ensures ∙ c.in-Some.is

pub loop-end-init : goal.loop-end-init
unfolding parts_of
loop-end-init c = (omega arith, refl)

pub split_step-requires : goal.split_step-requires
split_step-requires c = c.loop-end.invariant.0

pub slice_bounds-result-end : goal.slice_bounds-result-end
slice_bounds-result-end c = refl

pub returns-in_default : goal.returns-in_default
returns-in_default c =
    let none = parts_ended _ _ (sym c.split_step.ensures ∙ c.in_default.is) in
    sym (ap (λ (ps : List (List ℕ)). get_or ps c.loop-end.skip []) none) ∙ c.loop-end.invariant.1

pub slice_bounds-result-count : goal.slice_bounds-result-count
slice_bounds-result-count c = let h = part_inside _ _ _ (found (goal.at.slice_bounds-result-count c).In-Some) in omega arith

pub slice_bounds-result-start : goal.slice_bounds-result-start
slice_bounds-result-start c = let h = part_inside _ _ _ (found (goal.at.slice_bounds-result-start c).In-Some) in search rules

pub slice_bounds-result-end-then-skip-eq0 : goal.slice_bounds-result-end-then-skip-eq0
slice_bounds-result-end-then-skip-eq0 c =
    let h = part_inside _ _ _ (found (goal.at.slice_bounds-result-end-then-skip-eq0 c).In-Some) in search rules

pub returns-then-skip-eq0 : goal.returns-then-skip-eq0
returns-then-skip-eq0 c =
    let f = found (goal.at.returns-then-skip-eq0 c).In-Some in
    sym (first c.loop-end.skip (parts_on _ _ _ f) c.if-skip-eq0.true) ∙ c.loop-end.invariant.1

pub overflow_sub-skip : goal.overflow_sub-skip
overflow_sub-skip c = omega (arith, c.if-skip-eq0.false)

pub loop-end-smaller : goal.loop-end-smaller
loop-end-smaller c = let h = part_inside _ _ _ (found (goal.at.loop-end-smaller c).In-Some) in omega arith

pub loop-end-preserved : goal.loop-end-preserved
loop-end-preserved c =
    let f = found (goal.at.loop-end-preserved c).In-Some in
    ((part_inside _ _ _ f).1, sym (later c.loop-end.skip (parts_on _ _ _ f) c.if-skip-eq0.false) ∙ c.loop-end.invariant.1)
