-- A refusal of the rewrite goes before the test of the room; a needed size that is refused is a u64.
use native.Mathlib.Omega.{arith}
use mathlib.Core.Path.{sym, ◌∙◌}
use Rattle.tile.proofs.RulesLaws.{passed_on}
use Rattle.tile.proofs.RewriteLaws.{room_enough, room_short, judged_refused, judged_room}
use Rattle.tile.proofs.rewrite.judge.Goals as goal

pub returns-in_err-size : goal.returns-in_err-size
returns-in_err-size c = passed_on _ _ c.from_residual.ensures.1 ∙ sym (judged_refused _ _ _ _ c.in_err-size.was)

pub returns-then-room-needed : goal.returns-then-room-needed
returns-then-room-needed c =
    c.refuse.ensures ∙ sym (judged_room _ _ _ (sym c.in_ok-size.was) ∙ room_short _ _ c.if-room-needed.true (omega arith))

pub returns : goal.returns
returns c = sym (judged_room _ _ _ (sym c.in_ok-size.was) ∙ room_enough _ _ c.if-room-needed.false)
