-- At each return the tests that led there choose the case of the definition.
use Prim.Native.Nat.{◌+◌}
use native.Mathlib.Omega.{arith}
use mathlib.Core.Path.{sym, ap, ◌∙◌}
use Rattle.reader.specs.Siz.{move_of}
use Rattle.reader.proofs.SizLaws.{not_siz, move_few, move_siz, move_byte, move_no_length, move_segment}
use Rattle.chain.specs.Chain.{on}
use Rattle.reader.proofs.siz.siz_step.Goals as goal

pub returns-then-left-lt2 : goal.returns-then-left-lt2
returns-then-left-lt2 c = ap (move_of c.args.codestream.now c.args.at) c.refuse.ensures ∙ sym (move_few _ _ (omega arith))

pub returns-then-codestream-at : goal.returns-then-codestream-at
returns-then-codestream-at c =
    sym (move_byte _ _ (omega arith) (not_siz _ _ (λ i. omega (arith, c.type_inv.codestream i)) c.if-codestream-at.true) c.if-codestream-at.true)

pub returns-then-read_u16 : goal.returns-then-read_u16
returns-then-read_u16 c = sym (move_siz _ _ (omega arith) (sym c.read_u16.ensures ∙ c.if-read_u16.true))

pub returns-then-left-lt4 : goal.returns-then-left-lt4
returns-then-left-lt4 c =
    ap (move_of c.args.codestream.now c.args.at) c.refuse-then-left-lt4.ensures
    ∙ sym (move_no_length _ _ (omega arith) (λ e. c.if-read_u16.false (c.read_u16.ensures ∙ e)) c.if-codestream-at.false (omega arith))

pub returns : goal.returns
returns c =
    (λ i. on (c.args.at + (2 + c.read_u16-2.ensures i)))
    ∙ sym (move_segment _ _ (omega arith) (λ e. c.if-read_u16.false (c.read_u16.ensures ∙ e)) c.if-codestream-at.false (omega arith))
