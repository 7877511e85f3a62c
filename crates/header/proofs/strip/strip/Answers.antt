-- What was written, the run still to be copied and what lies ahead make up the decode header at every turn.
use native.Mathlib.Omega.{arith}
use mathlib.Core.Path.{◌≡◌, sym, ◌∙◌, ap}
use Rattle.std.specs.Prelude.{Some, Ok}
use Rattle.header.specs.Strip.{kept}
use Rattle.header.specs.Walk.{walk_step_at}
use Rattle.header.proofs.StripLaws.{stripping_start, stripping_plain, stripping_tlm, stripping_done}
use Rattle.header.proofs.WalkLaws.{by_is_some, by_is_none, passed_is, next_none, next_some}
use Rattle.header.proofs.strip.strip.Goals as goal
use Rattle.header.proofs.strip.strip.Goals.{In-Some}

-- what the step passed
found : (c : In-Some) → walk_step_at c.args.codestream.now c.loop-passed.at ≡ Ok (Some c.in-Some.passed)
found c = next_some _ _ _ (sym c.in-Some.ensures)

pub loop-passed-init : goal.loop-passed-init
loop-passed-init c = stripping_start _ _ c.requires.in_bounds c.requires.codestream_in_bounds

-- the walk ends where nothing is passed
pub returns-in_default : goal.returns-in_default
unfolding kept
returns-in_default c =
    let l = c.loop-passed in
    c.append.ensures.out_after ∙ stripping_done _ _ _ l.from l.to l.at l.invariant (ap (kept _) (next_none _ _ (sym c.next_passed.ensures ∙ c.in_default.is)))

-- a TLM segment
pub loop-passed-smaller-then-is_some : goal.loop-passed-smaller-then-is_some
loop-passed-smaller-then-is_some c =
    let told = passed_is _ _ _ (found (goal.at.loop-passed-smaller-then-is_some c).In-Some) in
    omega (arith, told.past, told.inside)

pub loop-passed-preserved-then-is_some : goal.loop-passed-preserved-then-is_some
loop-passed-preserved-then-is_some c =
    let l = c.loop-passed in
    let tlm = by_is_some c.in-Some.passed.tlm (sym c.if-is_some.ensures) in
    rw c.append-to.ensures.value
    (stripping_tlm _ _ _ l.from l.to l.at l.invariant _ (found (goal.at.loop-passed-preserved-then-is_some c).In-Some) tlm.1 _ c.append-to.ensures.out_after)

-- anything else
pub loop-passed-smaller : goal.loop-passed-smaller
loop-passed-smaller c =
    let told = passed_is _ _ _ (found (goal.at.loop-passed-smaller c).In-Some) in
    omega (arith, told.past, told.inside)

pub loop-passed-preserved : goal.loop-passed-preserved
loop-passed-preserved c =
    let l = c.loop-passed in
    stripping_plain _ _ _ l.from l.to l.at l.invariant _ (found (goal.at.loop-passed-preserved c).In-Some) (by_is_none _ (sym c.if-is_some.ensures))
