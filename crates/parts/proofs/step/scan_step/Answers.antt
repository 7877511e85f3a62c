-- At each return the tests that led there choose the case of the definition. An SOT is no EOC; and EOC ends the scan as any other marker does.
use native.Mathlib.Omega.{arith}
use mathlib.Core.Path.{sym, ◌∙◌}
use Rattle.parts.proofs.ScanLaws.{step_outside, step_eoc, step_short, step_ends, step_sot, sot_no_eoc}
use Rattle.parts.proofs.step.scan_step.Goals as goal

pub returns-then-codestream-at : goal.returns-then-codestream-at
returns-then-codestream-at c = sym (step_outside _ _ c.if-codestream-at.true)

pub returns-then-at_eoc : goal.returns-then-at_eoc
returns-then-at_eoc c =
    sym (step_eoc _ _ c.if-codestream-at.false (sym c.at_eoc.ensures ∙ c.if-at_eoc.true))

pub returns-then-codestream-at-lt-SOT_SEGMENT : goal.returns-then-codestream-at-lt-SOT_SEGMENT
returns-then-codestream-at-lt-SOT_SEGMENT c =
    c.refuse.ensures ∙ sym (step_short _ _ c.if-codestream-at.false (sym c.at_eoc.ensures ∙ c.if-at_eoc.false) (omega arith))

pub returns-then-read_u16 : goal.returns-then-read_u16
returns-then-read_u16 c =
    sym (step_ends _ _ c.if-codestream-at.false (omega arith) (λ m. c.if-read_u16.true (c.read_u16.ensures ∙ m)))

pub returns : goal.returns
returns c =
    let m = sym c.read_u16.ensures ∙ c.if-read_u16.false in
    c.sot_step.ensures ∙ sym (step_sot _ _ c.if-codestream-at.false (sot_no_eoc _ _ m) (omega arith) m)
