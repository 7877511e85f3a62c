-- The listing is judged, then the rows are compared: each return is one of the ways that a call ends.
use mathlib.Core.Path.{sym, ◌∙◌}
use Rattle.std.proofs.lemmas.Result.{err_from_is_err_and}
use Rattle.reader.proofs.BoxesAnswers.{answer_refused, answer_no_room, answer_boxes}
use Rattle.reader.proofs.boxes.decide.Goals as goal

pub returns-in_err-count : goal.returns-in_err-count
returns-in_err-count c =
    let p = err_from_is_err_and c.from_residual.result c.from_residual.ensures.1 in
    rw (p.1, p.2) (sym (answer_refused _ _ _ (sym c.in_err-count.ensures)))

pub returns-then-rows-count : goal.returns-then-rows-count
returns-then-rows-count c = c.refuse.ensures ∙ sym (answer_no_room _ _ _ (sym c.in_ok-count.ensures) c.if-rows-count.true)

pub returns : goal.returns
returns c = sym (answer_boxes _ _ _ (sym c.in_ok-count.ensures) c.if-rows-count.false)
