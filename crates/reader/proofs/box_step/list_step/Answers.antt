-- At each return what was read chooses the case of the definition.
use Prim.Native.Nat.{ℕ}
use native.Mathlib.Omega.{arith}
use mathlib.Core.List.{List}
use mathlib.Core.Path.{◌≡◌, sym, ap, ◌∙◌}
use Rattle.std.specs.Prelude.{Ok, Err}
use Rattle.reader.specs.Search.{box_at}
use Rattle.reader.specs.declared.search.BoxHeader.{BoxHeader}
use Rattle.reader.proofs.SearchLaws.{BoxTold, box_told}
use Rattle.reader.proofs.BoxStepLaws.{step_end, step_27, step_13, step_28, step_top, step_sized}
use Rattle.reader.proofs.box_step.list_step.Goals as goal
use Rattle.reader.proofs.box_step.list_step.Goals.{else-depth-gt1-via-then-depth-gt1+else-read_u32-eq0, else-depth-gt1-via-else-depth-gt1}

-- a box's header lies in the list
header : (s : List ℕ) (at : ℕ) (b : BoxHeader) → Ok b ≡ box_at s at → BoxTold s at (Ok b)
header s at b e = rw (sym e) at (box_told s at)

pub returns-then-within-at : goal.returns-then-within-at
returns-then-within-at c = sym (step_end _ _ _ c.if-within-at.true)

pub returns-in-Err-End : goal.returns-in-Err-End
returns-in-Err-End c =
    let read = sym c.box_at.ensures ∙ c.in-Err-End.is ∙ ap Err c.in-Err-End.field-0-is in
    c.refuse.ensures ∙ sym (step_27 _ _ _ (omega arith) read)

pub returns-in-Err-CutShort : goal.returns-in-Err-CutShort
returns-in-Err-CutShort c =
    let read = sym c.box_at.ensures ∙ c.in-Err-CutShort.is ∙ ap Err c.in-Err-CutShort.field-0-is in
    c.refuse-in-Err-CutShort.ensures ∙ sym (step_13 _ _ _ (omega arith) read)

pub read_u32-requires : goal.read_u32-requires
read_u32-requires c = let h = header _ _ _ c.in-Ok.ensures in omega arith

pub returns-then-read_u32-eq0 : goal.returns-then-read_u32-eq0
returns-then-read_u32-eq0 c =
    let zero = sym c.read_u32.ensures ∙ c.if-read_u32-eq0.true in
    c.refuse-then-read_u32-eq0.ensures ∙ sym (step_28 _ _ _ (omega arith) _ (sym c.in-Ok.ensures) c.if-depth-gt1.true zero)

pub judge_box-requires : goal.judge_box-requires
judge_box-requires c = let h = header _ _ _ c.in-Ok.ensures in omega arith

pub returns : goal.returns
returns c =
    let read = sym c.in-Ok.ensures in
    elim c.else-depth-gt1.branch [
      | else-depth-gt1-via-then-depth-gt1+else-read_u32-eq0 w ↦
          c.judge_box.ensures ∙ sym (step_sized _ _ _ (omega arith) _ read (λ z. w.if-read_u32-eq0.false (w.read_u32.ensures ∙ z)))
      | else-depth-gt1-via-else-depth-gt1 w ↦ c.judge_box.ensures ∙ sym (step_top _ _ _ (omega arith) _ read (omega arith))
    ]
