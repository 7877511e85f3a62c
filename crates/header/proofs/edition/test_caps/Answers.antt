-- What was met of CAP so far, with what lies ahead, is what the whole walk meets.
use native.Mathlib.Omega.{arith}
use mathlib.Core.Path.{◌≡◌, sym, ◌∙◌}
use mathlib.Core.Logic.{⊎_elim}
use Rattle.std.specs.Prelude.{Some, Ok}
use Rattle.header.specs.Walk.{walk_step_at}
use Rattle.header.proofs.WalkLaws.{by_is_some, by_is_none, passed_is, next_none, next_some}
use Rattle.header.proofs.EditionLaws.{capping_start, capping_on, capping_first, again_33, unwanted_33, missing_33, none_accepted, one_accepted, one_34}
use Rattle.header.proofs.edition.test_caps.Goals as goal
use Rattle.header.proofs.edition.test_caps.Goals.{In-Some, In_default}

-- what the step passed
found : (c : In-Some) → walk_step_at c.args.codestream.now c.loop-passed.at ≡ Ok (Some c.in-Some.passed)
found c = next_some _ _ _ (sym c.in-Some.ensures)

pub loop-passed-init : goal.loop-passed-init
loop-passed-init c = capping_start _ (omega (arith, c.requires))

-- a CAP that is passed, behind another or unwanted
pub returns-then-is_some : goal.returns-then-is_some
returns-then-is_some c =
    let l = c.loop-passed.invariant in
    let f = found (goal.at.returns-then-is_some c).In-Some in
    let is = sym (passed_is _ _ _ f).code ∙ c.if-passed.true in
    sym (⊎_elim
    (λ again. let cap = by_is_some _ (sym c.is_some.ensures ∙ again) in again_33 _ _ _ f is _ cap.0 (rw cap.1 at l))
    (λ first. unwanted_33 _ _ _ f is _ (rw (by_is_none _ (sym c.is_some.ensures ∙ first.0)) at l) (sym c.announces_cap-wanted.ensures ∙ first.1))
    c.then-is_some.either)

pub loop-passed-smaller-else-not-wanted : goal.loop-passed-smaller-else-not-wanted
loop-passed-smaller-else-not-wanted c =
    let told = passed_is _ _ _ (found (goal.at.loop-passed-smaller-else-not-wanted c).In-Some) in
    omega (arith, told.past, told.inside)

-- the first CAP, which is wanted
pub loop-passed-preserved-else-not-wanted : goal.loop-passed-preserved-else-not-wanted
loop-passed-preserved-else-not-wanted c =
    let l = c.loop-passed.invariant in
    let f = found (goal.at.loop-passed-preserved-else-not-wanted c).In-Some in
    let is = sym (passed_is _ _ _ f).code ∙ c.if-passed.true in
    capping_first _ _ _ f is (rw (by_is_none _ (sym c.is_some.ensures ∙ c.if-is_some.false)) at l) (sym c.announces_cap-wanted.ensures ∙ c.if-not-wanted.false)

pub loop-passed-smaller : goal.loop-passed-smaller
loop-passed-smaller c =
    let told = passed_is _ _ _ (found (goal.at.loop-passed-smaller c).In-Some) in
    omega (arith, told.past, told.inside)

pub loop-passed-preserved : goal.loop-passed-preserved
loop-passed-preserved c =
    let f = found (goal.at.loop-passed-preserved c).In-Some in
    let told = passed_is _ _ _ f in
    capping_on _ _ _ f _ c.loop-passed.invariant (λ e. c.if-passed.false (told.code ∙ e))

-- the walk ends where nothing is passed
pub returns-then-wanted : goal.returns-then-wanted
returns-then-wanted c =
    let stops = next_none _ _ (sym c.next_passed.ensures ∙ c.in_default.is) in
    sym (missing_33 _ _ stops _ (rw c.in_default-cap.is at c.loop-passed.invariant) (sym c.announces_cap-wanted.ensures ∙ c.if-wanted.true))

pub returns-in_default-cap : goal.returns-in_default-cap
returns-in_default-cap c =
    let stops = next_none _ _ (sym c.next_passed.ensures ∙ c.in_default.is) in
    sym (none_accepted _ _ stops _ (rw c.in_default-cap.is at c.loop-passed.invariant) (sym c.announces_cap-wanted.ensures ∙ c.if-wanted.false))

pub cap_fits-requires : goal.cap_fits-requires
cap_fits-requires c = let i = rw c.in-Some-cap.is at c.loop-passed.invariant in i.met.2

pub returns-then-not-cap_fits : goal.returns-then-not-cap_fits
returns-then-not-cap_fits c =
    let stops = next_none _ _ (sym c.next_passed.ensures ∙ c.in_default.is) in
    sym (one_34 _ _ stops _ _ (rw c.in-Some-cap.is at c.loop-passed.invariant) (sym c.cap_fits.ensures ∙ c.if-not-cap_fits.true))

pub returns : goal.returns
returns c =
    let stops = next_none _ _ (sym c.next_passed.ensures ∙ c.in_default.is) in
    sym (one_accepted _ _ stops _ _ (rw c.in-Some-cap.is at c.loop-passed.invariant) (sym c.cap_fits.ensures ∙ c.if-not-cap_fits.false))
