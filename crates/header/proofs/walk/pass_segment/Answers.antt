-- By the code, and of a TLM segment by what it holds.
use mathlib.Core.Path.{sym, ◌∙◌, ap}
use Rattle.std.proofs.lemmas.Result.{err_from_is_err_and}
use Rattle.header.specs.Walk.{tlm_step}
use Rattle.header.proofs.WalkLaws.{pass_other, pass_tlm}
use Rattle.header.proofs.walk.pass_segment.Goals as goal

pub returns-in_err-tlm_at : goal.returns-in_err-tlm_at
unfolding tlm_step
returns-in_err-tlm_at c =
    let p = err_from_is_err_and c.from_residual.result c.from_residual.ensures.1 in
    rw (p.1, p.2) (sym (pass_tlm _ _ _ c.if-marker-eq-TLM.true ∙ ap (tlm_step c.args.marker) (sym c.in_err-tlm_at.ensures)))

pub returns-in_ok-tlm_at : goal.returns-in_ok-tlm_at
unfolding tlm_step
returns-in_ok-tlm_at c = sym (pass_tlm _ _ _ c.if-marker-eq-TLM.true ∙ ap (tlm_step c.args.marker) (sym c.in_ok-tlm_at.ensures))

pub returns-else-marker-eq-TLM : goal.returns-else-marker-eq-TLM
returns-else-marker-eq-TLM c = sym (pass_other _ _ _ c.if-marker-eq-TLM.false)
