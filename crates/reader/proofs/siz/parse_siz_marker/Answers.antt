-- The search from the present position ends as the search from 2 does; each turn is one step of the chain, and what is left of the codestream falls.
use native.Mathlib.Omega.{arith}
use mathlib.Core.Path.{◌≡◌, refl, sym, ap, ◌∙◌}
use Rattle.std.specs.Prelude.{Ok}
use Rattle.std.proofs.lemmas.Result.{err_from_is_err_and}
use Rattle.chain.specs.Chain.{on}
use Rattle.reader.specs.Siz.{move_of, move_at, siz_read}
use Rattle.reader.proofs.SizLaws.{rises, read_end_lem, read_on}
use Rattle.reader.proofs.siz.parse_siz_marker.Goals as goal
use Rattle.reader.proofs.siz.parse_siz_marker.Goals.{In-Some}

-- a step that goes on
turn : (c : In-Some) → move_at c.args.codestream.now c.loop-next.at ≡ on c.in-Some.next
turn c = sym c.siz_step.ensures ∙ ap (move_of c.args.codestream.now c.loop-next.at) (c.in_ok-next.was ∙ ap Ok c.in-Some.is)

pub loop-next-init : goal.loop-next-init
unfolding siz_read
loop-next-init c = refl

pub returns-in_err-next : goal.returns-in_err-next
returns-in_err-next c =
    let p = err_from_is_err_and c.from_residual.result c.from_residual.ensures.1 in
    let refused = sym c.siz_step.ensures ∙ ap (move_of c.args.codestream.now c.loop-next.at) c.in_err-next.was in
    rw (p.1, p.2) (sym (read_end_lem _ c.loop-next.at _ refused) ∙ c.loop-next.invariant)

pub loop-next-smaller : goal.loop-next-smaller
loop-next-smaller c = let m = rises c.args.codestream.now _ _ (turn (goal.at.loop-next-smaller c).In-Some) in omega arith

pub loop-next-preserved : goal.loop-next-preserved
loop-next-preserved c = sym (read_on _ c.loop-next.at _ (turn (goal.at.loop-next-preserved c).In-Some)) ∙ c.loop-next.invariant

pub returns : goal.returns
returns c =
    let stands = sym c.siz_step.ensures ∙ ap (move_of c.args.codestream.now c.loop-next.at) (c.in_ok-next.was ∙ ap Ok c.in_default.is) in
    c.read_siz.ensures ∙ sym (read_end_lem _ c.loop-next.at _ stands) ∙ c.loop-next.invariant
