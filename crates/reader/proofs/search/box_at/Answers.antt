-- What is read stands in the file as the definition says, and the tests choose its case.
use native.Mathlib.Omega.{arith}
use mathlib.Core.Path.{sym, ◌∙◌}
use Rattle.std.specs.Prelude.{Ok}
use Rattle.reader.proofs.SearchLaws.{box_end, box_cut, box_extended, box_to_end, box_plain}
use Rattle.reader.proofs.search.box_at.Goals as goal

pub returns-then-left-lt8 : goal.returns-then-left-lt8
returns-then-left-lt8 c = sym (box_end _ _ (omega arith))

pub returns-then-left-lt16 : goal.returns-then-left-lt16
returns-then-left-lt16 c = sym (box_cut _ _ (omega arith) (sym c.read_u32-length.ensures ∙ c.if-length-eq1.true) (omega arith))

pub returns-then-length-eq1 : goal.returns-then-length-eq1
returns-then-length-eq1 c =
    (λ i. Ok (record { kind = c.read_u32-kind.ensures i; header = 16; length = c.read_u64.ensures i }))
    ∙ sym (box_extended _ _ (omega arith) (sym c.read_u32-length.ensures ∙ c.if-length-eq1.true) (omega arith))

pub returns-then-length-eq0 : goal.returns-then-length-eq0
returns-then-length-eq0 c =
    (λ i. Ok (record { kind = c.read_u32-kind.ensures i; header = 8; length = c.saturating_sub-left.ensures i }))
    ∙ sym (box_to_end _ _ (omega arith) (sym c.read_u32-length.ensures ∙ c.if-length-eq0.true))

pub returns-else-length-eq0 : goal.returns-else-length-eq0
returns-else-length-eq0 c =
    let l = c.read_u32-length.ensures in
    (λ i. Ok (record { kind = c.read_u32-kind.ensures i; header = 8; length = l i }))
    ∙ sym (box_plain _ _ (omega arith) (λ e. c.if-length-eq1.false (l ∙ e)) (λ e. c.if-length-eq0.false (l ∙ e)))
