-- The answer stands before a row is written: a refusal leaves the table, and the boxes that were counted are those listed, whose rows fit.
use native.Mathlib.Omega.{arith}
use mathlib.Core.Path.{sym, ◌∙◌}
use Rattle.std.proofs.lemmas.Result.{err_from_is_err_and}
use Rattle.reader.proofs.BoxesAnswers.{answered, table_kept, table_filled}
use Rattle.reader.proofs.boxes.list_boxes.Goals as goal

pub returns-in_err-count : goal.returns-in_err-count
returns-in_err-count c =
    let p = err_from_is_err_and c.from_residual.result c.from_residual.ensures.1 in
    record { value = rw (p.1, p.2) (c.in_err-count.ensures); table_after = sym (table_kept _ _ _ (sym c.in_err-count.ensures)) }

pub fill_boxes-requires : goal.fill_boxes-requires
fill_boxes-requires c =
    let a = answered _ _ _ (sym c.in_ok-count.ensures) in
    record { depth_le_deepest = omega arith; accepted = a.accepted; start_in_bounds = omega (arith, a.counts, a.room) }

pub returns : goal.returns
returns c = record { value = c.in_ok-count.ensures; table_after = c.fill_boxes.ensures.table_after ∙ sym (table_filled _ _ _ (sym c.in_ok-count.ensures)) }
