-- What is noted so far, with what lies ahead, is what the whole header has.
use Prim.Native.Nat.{◌-◌, ◌<◌}
use native.Mathlib.Omega.{arith}
use mathlib.Core.Path.{◌≡◌, sym, ap, ◌∙◌}
use lib.ListN.{length}
use Rattle.std.specs.Prelude.{Some, Ok}
use Rattle.std.proofs.lemmas.Result.{err_from_is_err_and}
use Rattle.header.specs.Walk.{walk_step_at}
use Rattle.header.proofs.WalkLaws.{passed_is, by_is_some, by_is_none}
use Rattle.lengths.proofs.PlacesFound.{finding_start, finding_plain, finding_first, finding_again, finding_later, end_refused, end_32, end_found, end_noted}
use Rattle.lengths.proofs.segments.find_segments.Goals as goal
use Rattle.lengths.proofs.segments.find_segments.Goals.{In-Some}

-- what the step passed
found : (c : In-Some) → walk_step_at c.args.header.now c.loop-passed.at ≡ Ok (Some c.in-Some.passed)
found c = sym c.in_ok-passed.ensures ∙ ap Ok c.in-Some.is

pub loop-passed-init : goal.loop-passed-init
loop-passed-init c = finding_start _ _ c.requires.in_bounds c.requires.blank

pub ztlm_at-z-requires : goal.ztlm_at-z-requires
ztlm_at-z-requires c =
    let count = by_is_some _ (sym c.if-is_some.ensures) in
    ((passed_is _ _ _ (found (goal.at.ztlm_at-z-requires c).In-Some)).tlm count.0 count.1).accepted

-- what was passed ends further on
less : (c : In-Some) → length c.args.header.now - c.in-Some.passed.next < length c.args.header.now - c.loop-passed.at
less c = let told = passed_is _ _ _ (found c) in omega (arith, told.past, told.inside)

-- the first segment with its Ztlm
pub loop-passed-smaller-then-places-z-eq0 : goal.loop-passed-smaller-then-places-z-eq0
loop-passed-smaller-then-places-z-eq0 c = less (goal.at.loop-passed-smaller-then-places-z-eq0 c).In-Some

pub loop-passed-preserved-then-places-z-eq0 : goal.loop-passed-preserved-then-places-z-eq0
loop-passed-preserved-then-places-z-eq0 c =
    let f = found (goal.at.loop-passed-preserved-then-places-z-eq0 c).In-Some in
    let count = by_is_some _ (sym c.if-is_some.ensures) in
    finding_first _ _ _ _ c.loop-passed.invariant _ f count.1 _ c.ztlm_at-z.ensures (omega arith) c.if-places-z-eq0.true

-- the first that repeats a Ztlm
pub loop-passed-smaller-then-is_none : goal.loop-passed-smaller-then-is_none
loop-passed-smaller-then-is_none c = less (goal.at.loop-passed-smaller-then-is_none c).In-Some

pub loop-passed-preserved-then-is_none : goal.loop-passed-preserved-then-is_none
loop-passed-preserved-then-is_none c =
    let f = found (goal.at.loop-passed-preserved-then-is_none c).In-Some in
    let count = by_is_some _ (sym c.if-is_some.ensures) in
    finding_again _ _ _ _ c.loop-passed.invariant _ f count.1 _ c.ztlm_at-z.ensures (omega arith) c.if-places-z-eq0.false (by_is_none _ c.if-is_none.ensures)

-- another one was before it
pub loop-passed-smaller-else-is_none : goal.loop-passed-smaller-else-is_none
loop-passed-smaller-else-is_none c = less (goal.at.loop-passed-smaller-else-is_none c).In-Some

pub loop-passed-preserved-else-is_none : goal.loop-passed-preserved-else-is_none
loop-passed-preserved-else-is_none c =
    let f = found (goal.at.loop-passed-preserved-else-is_none c).In-Some in
    let count = by_is_some _ (sym c.if-is_some.ensures) in
    finding_later _ _ _ _ c.loop-passed.invariant _ f count.1 _ c.ztlm_at-z.ensures (omega arith) c.if-places-z-eq0.false (by_is_some _ c.if-is_none.ensures).1

-- no TLM segment
pub loop-passed-smaller : goal.loop-passed-smaller
loop-passed-smaller c = less (goal.at.loop-passed-smaller c).In-Some

pub loop-passed-preserved : goal.loop-passed-preserved
loop-passed-preserved c =
    finding_plain _ _ _ _ c.loop-passed.invariant _ (found (goal.at.loop-passed-preserved c).In-Some) (by_is_none _ (sym c.if-is_some.ensures))

pub returns-in_err-passed-clause-value : goal.returns-in_err-passed-clause-value
returns-in_err-passed-clause-value c =
    let p = err_from_is_err_and c.from_residual.result c.from_residual.ensures.1 in
    rw (p.1, p.2) (end_refused _ _ _ _ c.loop-passed.invariant _ (sym c.in_err-passed.ensures))

-- at an SOT
pub returns-in-Some-again-clause-value : goal.returns-in-Some-again-clause-value
returns-in-Some-again-clause-value c = end_32 _ _ _ _ c.loop-passed.invariant (sym c.in_ok-passed.ensures ∙ ap Ok c.in_default.is) c.in-Some-again.is

pub returns : goal.returns
returns c =
    let stood = sym c.in_ok-passed.ensures ∙ ap Ok c.in_default.is in
    record {
      value = (λ i. Ok (record { 0 = c.at.ensures i })) ∙ end_found _ _ _ _ c.loop-passed.invariant stood c.in_default-again.is;
      noted_if = λ o e. end_noted _ _ _ _ c.loop-passed.invariant stood c.in_default-again.is;
    }
