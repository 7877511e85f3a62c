-- At each return the tests that led there choose the case of the definition.
use native.Mathlib.Omega.{arith}
use mathlib.Core.Path.{◌≡◌, sym, ap, ◌∙◌}
use Rattle.std.specs.Prelude.{Some, Ok}
use Rattle.parts.proofs.ScanLaws.{sot_lsot, sot_rest, sot_past, sot_part}
use Rattle.parts.specs.Scan.{entry_of}
use Rattle.parts.specs.Sot.{lsot}
use Rattle.parts.proofs.step.sot_step.Goals as goal
use Rattle.parts.proofs.step.sot_step.Goals.{Else-read_u16-ne-LSOT_VALUE}

-- past the first test
ten : (c : Else-read_u16-ne-LSOT_VALUE) → lsot c.args.codestream.now c.args.at ≡ 10
ten c = sym c.read_u16.ensures ∙ c.if-read_u16-ne-LSOT_VALUE.false

pub returns-then-read_u16-ne-LSOT_VALUE : goal.returns-then-read_u16-ne-LSOT_VALUE
returns-then-read_u16-ne-LSOT_VALUE c = c.refuse.ensures ∙ sym (sot_lsot _ _ (λ e. c.if-read_u16-ne-LSOT_VALUE.true (c.read_u16.ensures ∙ e)))

pub returns-then-psot-eq0 : goal.returns-then-psot-eq0
returns-then-psot-eq0 c =
    let t = ten (goal.at.returns-then-psot-eq0 c).Else-read_u16-ne-LSOT_VALUE in
    ap (λ p. Ok (Some p)) c.entry_at.ensures ∙ sym (sot_rest _ _ t (sym c.read_u32-psot.ensures ∙ c.if-psot-eq0.true))

pub returns-then-rest-psot : goal.returns-then-rest-psot
returns-then-rest-psot c =
    let t = ten (goal.at.returns-then-rest-psot c).Else-read_u16-ne-LSOT_VALUE in
    c.refuse-then-rest-psot.ensures ∙ sym (sot_past _ _ t (λ e. c.if-psot-eq0.false (c.read_u32-psot.ensures ∙ e)) (omega arith))

pub returns : goal.returns
returns c =
    let t = ten (goal.at.returns c).Else-read_u16-ne-LSOT_VALUE in
    ap (λ p. Ok (Some p)) (c.entry_at-2.ensures ∙ ap (entry_of _ _) c.read_u32-psot.ensures)
    ∙ sym (sot_part _ _ t (λ e. c.if-psot-eq0.false (c.read_u32-psot.ensures ∙ e)) (omega arith))
