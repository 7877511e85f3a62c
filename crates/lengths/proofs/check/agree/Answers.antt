-- By what the scan's step finds, and whether both numbers are the same.
use native.Mathlib.Omega.{arith}
use mathlib.Core.Path.{◌≡◌, sym, ap, ◌∙◌}
use mathlib.Core.Logic.{⊎_elim}
use Rattle.std.specs.Prelude.{Some, None, Ok}
use Rattle.std.specs.Result.{result_unwrap_or}
use Rattle.parts.specs.Scan.{scan_step_at}
use Rattle.parts.proofs.ScanLaws.{part_stands, part_offset}
use Rattle.lengths.specs.Agree.{agreed_by}
use Rattle.lengths.proofs.AgreeLaws.{same_both, other_index, other_bytes, agreed_part, agreed_other, agreed_none, unwrapped}
use Rattle.lengths.proofs.check.agree.Goals as goal
use Rattle.lengths.proofs.check.agree.Goals.{In_ok-part}

-- what the step found
found : (c : In_ok-part) → scan_step_at c.args.codestream.now c.args.at ≡ Ok (Some c.in_ok-part.part)
found c = unwrapped _ (sym (ap (λ step. result_unwrap_or step None) c.scan_step.ensures) ∙ sym c.unwrap_or.ensures ∙ c.in_ok-part.was)

pub returns-in_err-part : goal.returns-in_err-part
returns-in_err-part c =
    c.from_residual.ensures
    ∙ sym (agreed_none _ _ (sym (ap (λ step. result_unwrap_or step None) c.scan_step.ensures) ∙ sym c.unwrap_or.ensures ∙ c.in_err-part.was))

pub end_of-requires : goal.end_of-requires
end_of-requires c =
    let f = found (goal.at.end_of-requires c).In_ok-part in
    let h = part_stands _ _ _ f in
    omega (arith, part_offset _ _ _ f)

pub returns-then-entry-part-2 : goal.returns-then-entry-part-2
returns-then-entry-part-2 c =
    let f = found (goal.at.returns-then-entry-part-2 c).In_ok-part in
    sym (ap (agreed_by _) f ∙ agreed_part _ _ (same_both _ _ c.if-entry-part.true c.if-entry-part-2.true) ∙ ap Some (sym (c.position.ensures ∙ c.end_of.ensures)))

pub returns-else-entry-part : goal.returns-else-entry-part
returns-else-entry-part c =
    let f = found (goal.at.returns-else-entry-part c).In_ok-part in
    sym (ap (agreed_by _) f ∙ agreed_other _ _ (⊎_elim (λ w. other_bytes _ _ w.1) (λ w. other_index _ _ w) c.else-entry-part.either))
