-- What was found so far, or what lies ahead, is what is found in the whole.
use native.Mathlib.Omega.{arith}
use mathlib.Core.Path.{◌≡◌, sym, ap, ◌∙◌}
use mathlib.Core.Bool.{not}
use mathlib.Core.Logic.{inl, inr}
use Rattle.std.specs.Prelude.{Some, Ok}
use Rattle.std.proofs.lemmas.Result.{err_from_is_err_and}
use Rattle.header.specs.Walk.{walk_step_at}
use Rattle.header.proofs.WalkLaws.{passed_is}
use Rattle.header.proofs.FindLaws.{seeking_start, seeking_here, seeking_on, sought_refused, sought_found}
use Rattle.header.proofs.find.walk_for.Goals as goal
use Rattle.header.proofs.find.walk_for.Goals.{In-Some, else-is_none-via-then-is_none+else-passed-marker, else-is_none-via-else-is_none}

-- what the step passed
found : (c : In-Some) → walk_step_at c.args.codestream.now c.loop-passed.at ≡ Ok (Some c.in-Some.passed)
found c = sym c.in_ok-passed.ensures ∙ ap Ok c.in-Some.is

pub loop-passed-init : goal.loop-passed-init
loop-passed-init c = seeking_start _ _ c.requires

pub returns-in_err-passed : goal.returns-in_err-passed
returns-in_err-passed c =
    let p = err_from_is_err_and c.from_residual.result c.from_residual.ensures.1 in
    rw (p.1, p.2) (sym (sought_refused _ _ _ _ c.loop-passed.invariant _ (sym c.in_err-passed.ensures)))

-- at an SOT
pub returns : goal.returns
returns c = sym (sought_found _ _ _ _ c.loop-passed.invariant (sym c.in_ok-passed.ensures ∙ ap Ok c.in_default.is))

-- the first one
pub loop-passed-smaller-then-passed-marker : goal.loop-passed-smaller-then-passed-marker
loop-passed-smaller-then-passed-marker c =
    let told = passed_is _ _ _ (found (goal.at.loop-passed-smaller-then-passed-marker c).In-Some) in
    omega (arith, told.past, told.inside)

pub loop-passed-preserved-then-passed-marker : goal.loop-passed-preserved-then-passed-marker
loop-passed-preserved-then-passed-marker c =
    let f = found (goal.at.loop-passed-preserved-then-passed-marker c).In-Some in
    let is = sym (passed_is _ _ _ f).code ∙ c.if-passed-marker.true in
    seeking_here _ _ _ _ f _ c.loop-passed.invariant c.if-is_none.ensures is c.at.ensures

-- another marker, or one was found before
pub loop-passed-smaller : goal.loop-passed-smaller
loop-passed-smaller c =
    let told = passed_is _ _ _ (found (goal.at.loop-passed-smaller c).In-Some) in
    omega (arith, told.past, told.inside)

pub loop-passed-preserved : goal.loop-passed-preserved
loop-passed-preserved c =
    let f = found (goal.at.loop-passed-preserved c).In-Some in
    let told = passed_is _ _ _ f in
    seeking_on _ _ _ _ f _ c.loop-passed.invariant
    (elim c.else-is_none.branch [
      | else-is_none-via-then-is_none+else-passed-marker w ↦ inl (λ e. w.if-passed-marker.false (told.code ∙ e))
      | else-is_none-via-else-is_none w ↦ inr (c.is_none.ensures ∙ ap not w.if-is_none.false)
    ])
