-- Each answer is a law of counting, for what the step finds. A superbox that is opened lies above depth 8 and ends inside the list that it stands in.
use native.Mathlib.Omega.{arith}
use mathlib.Core.Path.{sym, ap, ◌∙◌}
use Rattle.std.specs.Prelude.{Ok}
use Rattle.std.proofs.lemmas.Result.{err_from_is_err_and}
use Rattle.reader.proofs.BoxStepLaws.{some_inside, step_is, plain_stands, superbox_stands}
use Rattle.reader.proofs.BoxesCounting.{none_counted, count_small, count_end, count_refused, count_plain, count_stopped, count_superbox}
use Rattle.reader.proofs.boxes.+count_boxes_count_superbox.Goals as goal

pub count_boxes-loop-step-init : goal.count_boxes-loop-step-init
count_boxes-loop-step-init t c = none_counted _ _ _

pub count_boxes-returns-in_err-step : goal.count_boxes-returns-in_err-step
count_boxes-returns-in_err-step t c =
    let p = err_from_is_err_and c.from_residual.result c.from_residual.ensures.1 in
    rw (p.1, p.2) (count_refused c.loop-step.invariant _ (sym c.in_err-step.ensures))

pub count_boxes-returns : goal.count_boxes-returns
count_boxes-returns t c = count_end c.loop-step.invariant (sym c.in_ok-step.ensures ∙ ap Ok c.in_default.is)

pub count_boxes-overflow_add-count : goal.count_boxes-overflow_add-count
count_boxes-overflow_add-count t c =
    let inside = some_inside _ _ _ _ (sym c.in_ok-step.ensures ∙ ap Ok c.in-Some.is) in
    omega (arith, count_small c.loop-step.invariant)

pub count_boxes-end_of-at-requires : goal.count_boxes-end_of-at-requires
count_boxes-end_of-at-requires t c = let h = plain_stands (step_is c.in_ok-step.ensures c.in-Some.is c.in-Plain.is) in omega arith

pub count_boxes-loop-step-smaller-in-Plain : goal.count_boxes-loop-step-smaller-in-Plain
count_boxes-loop-step-smaller-in-Plain t c = let h = plain_stands (step_is c.in_ok-step.ensures c.in-Some.is c.in-Plain.is) in omega arith

pub count_boxes-loop-step-preserved-in-Plain : goal.count_boxes-loop-step-preserved-in-Plain
count_boxes-loop-step-preserved-in-Plain t c =
    rw c.end_of-at.ensures (count_plain c.loop-step.invariant (step_is c.in_ok-step.ensures c.in-Some.is c.in-Plain.is))

pub count_boxes-count_superbox-requires : goal.count_boxes-count_superbox-requires
count_boxes-count_superbox-requires t c =
    let h = superbox_stands (step_is c.in_ok-step.ensures c.in-Some.is c.in-Superbox.is) in
    (omega (arith, h.1, h.0.level, c.decreases), (omega (arith, h.1, h.0.level), h.0.inside))

pub count_boxes-returns-in_err-count-in-Superbox : goal.count_boxes-returns-in_err-count-in-Superbox
count_boxes-returns-in_err-count-in-Superbox t c =
    let r = c.from_residual-in_err-count-in-Superbox in
    let p = err_from_is_err_and r.result r.ensures.1 in
    rw (p.1, p.2) (count_stopped c.loop-step.invariant (step_is c.in_ok-step.ensures c.in-Some.is c.in-Superbox.is) (sym c.in_err-count-in-Superbox.ensures))

pub count_boxes-overflow_add-count-in-Superbox : goal.count_boxes-overflow_add-count-in-Superbox
count_boxes-overflow_add-count-in-Superbox t c =
    let found = step_is c.in_ok-step.ensures c.in-Some.is c.in-Superbox.is in
    let h = (superbox_stands found).0 in
    omega (arith, count_small (count_superbox c.loop-step.invariant found (sym c.in_ok-count-in-Superbox.ensures)))

pub count_boxes-end_of-at-requires-in-Superbox : goal.count_boxes-end_of-at-requires-in-Superbox
count_boxes-end_of-at-requires-in-Superbox t c = let h = (superbox_stands (step_is c.in_ok-step.ensures c.in-Some.is c.in-Superbox.is)).0 in omega arith

pub count_boxes-loop-step-smaller : goal.count_boxes-loop-step-smaller
count_boxes-loop-step-smaller t c = let h = (superbox_stands (step_is c.in_ok-step.ensures c.in-Some.is c.in-Superbox.is)).0 in omega arith

pub count_boxes-loop-step-preserved : goal.count_boxes-loop-step-preserved
count_boxes-loop-step-preserved t c =
    rw c.end_of-at-in-Superbox.ensures (count_superbox c.loop-step.invariant (step_is c.in_ok-step.ensures c.in-Some.is c.in-Superbox.is) (sym c.in_ok-count-in-Superbox.ensures))

pub count_superbox-count_boxes-requires : goal.count_superbox-count_boxes-requires
count_superbox-count_boxes-requires t c = (omega (arith, c.decreases, c.requires.depth_lt_deepest), omega (arith, c.requires.depth_lt_deepest))
