-- Each answer is a law of filling, for what the step finds. A list that was accepted holds no refusal, and its rows have room: so have those of a superbox in it.
use native.Mathlib.Omega.{arith}
use mathlib.Core.Path.{sym, ◌∙◌}
use Rattle.reader.proofs.BoxStepLaws.{plain_stands, superbox_stands}
use Rattle.reader.proofs.BoxesFilling.{none_filled, row_inside, fill_full, fill_none, step_given, fill_plain, held_accepted, superbox_room, fill_superbox}
use Rattle.reader.proofs.boxes.+fill_boxes_fill_superbox.Goals as goal

pub fill_boxes-loop-table-init : goal.fill_boxes-loop-table-init
fill_boxes-loop-table-init t c = none_filled _ _ _ _ _

pub fill_boxes-overflow_sub-table : goal.fill_boxes-overflow_sub-table
fill_boxes-overflow_sub-table t c = row_inside c.requires.accepted c.requires.start_in_bounds c.loop-table.invariant

pub fill_boxes-returns-in_default : goal.fill_boxes-returns-in_default
fill_boxes-returns-in_default t c =
    let done = fill_none c.requires.accepted c.requires.start_in_bounds c.loop-table.invariant _ c.list_step.ensures (sym c.unwrap_or.ensures ∙ c.in_default.is) in
    record { value = done.0; table_after = done.1 }

pub fill_boxes-returns : goal.fill_boxes-returns
fill_boxes-returns t c =
    let done = fill_full c.requires.accepted c.requires.start_in_bounds c.loop-table.invariant c.loop-table-test.false in
    record { value = done.0; table_after = done.1 }

pub fill_boxes-end_of-at-requires : goal.fill_boxes-end_of-at-requires
fill_boxes-end_of-at-requires t c = let h = plain_stands (step_given c.list_step.ensures c.unwrap_or.ensures c.in-Some.is c.in-Plain.is) in omega arith

pub fill_boxes-loop-table-smaller-in-Plain : goal.fill_boxes-loop-table-smaller-in-Plain
fill_boxes-loop-table-smaller-in-Plain t c = let h = plain_stands (step_given c.list_step.ensures c.unwrap_or.ensures c.in-Some.is c.in-Plain.is) in omega arith

pub fill_boxes-loop-table-preserved-in-Plain : goal.fill_boxes-loop-table-preserved-in-Plain
fill_boxes-loop-table-preserved-in-Plain t c =
    rw c.end_of-at.ensures (fill_plain c.requires.accepted c.requires.start_in_bounds c.loop-table.invariant (step_given c.list_step.ensures c.unwrap_or.ensures c.in-Some.is c.in-Plain.is) c.write_row.ensures)

pub fill_boxes-fill_superbox-row-requires : goal.fill_boxes-fill_superbox-row-requires
fill_boxes-fill_superbox-row-requires t c =
    let f = step_given c.list_step.ensures c.unwrap_or.ensures c.in-Some.is c.in-Superbox.is in
    let h = superbox_stands f in
    let held = held_accepted c.requires.accepted c.requires.start_in_bounds c.loop-table.invariant f in
    let room = superbox_room c.requires.accepted c.requires.start_in_bounds c.loop-table.invariant f in
    (omega (arith, h.1, h.0.level, c.decreases), (omega (arith, h.1, h.0.level), (h.0.inside, (held, omega (arith, room, c.loop-table.invariant.written.same)))))

pub fill_boxes-end_of-at-requires-in-Superbox : goal.fill_boxes-end_of-at-requires-in-Superbox
fill_boxes-end_of-at-requires-in-Superbox t c = let h = (superbox_stands (step_given c.list_step.ensures c.unwrap_or.ensures c.in-Some.is c.in-Superbox.is)).0 in omega arith

pub fill_boxes-loop-table-smaller : goal.fill_boxes-loop-table-smaller
fill_boxes-loop-table-smaller t c = let h = (superbox_stands (step_given c.list_step.ensures c.unwrap_or.ensures c.in-Some.is c.in-Superbox.is)).0 in omega arith

pub fill_boxes-loop-table-preserved : goal.fill_boxes-loop-table-preserved
fill_boxes-loop-table-preserved t c =
    let held = c.fill_superbox-row.ensures in
    let filled = fill_superbox c.requires.accepted c.requires.start_in_bounds c.loop-table.invariant (step_given c.list_step.ensures c.unwrap_or.ensures c.in-Some.is c.in-Superbox.is) in
    rw c.end_of-at-in-Superbox.ensures (filled c.write_row-in-Superbox.ensures held.table_after held.value)

pub fill_superbox-fill_boxes-requires : goal.fill_superbox-fill_boxes-requires
fill_superbox-fill_boxes-requires t c =
    let to = c.end_of-to.ensures in
    let from = c.position.ensures in
    (omega (arith, c.decreases, c.requires.depth_lt_deepest), (omega (arith, c.requires.depth_lt_deepest), (rw (to, from) c.requires.accepted, rw (to, from) c.requires.in_bounds_2)))
