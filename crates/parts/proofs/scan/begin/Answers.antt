-- As many records as were counted lie between the start and here, their rows were zeros and are written; each turn is one more, and where it stops that is the contract.
use native.Mathlib.Omega.{arith}
use mathlib.Core.Path.{◌≡◌, sym, ap, ◌∙◌}
use Rattle.std.specs.Prelude.{Some, Ok}
use Rattle.parts.specs.Scan.{scan_step_at}
use Rattle.parts.proofs.ScanLaws.{part_stands, part_offset}
use Rattle.parts.proofs.WalkLaws.{reached_few}
use Rattle.parts.proofs.BeginLaws.{none_begun, begins, full_up, full_used, begun_more}
use Rattle.parts.proofs.scan.begin.Goals as goal
use Rattle.parts.proofs.scan.begin.Goals.{In-Ok-Some}

-- the step's answer taken apart: the tile-part that stands here
found : (c : In-Ok-Some) → scan_step_at c.args.codestream.now c.loop-table.at ≡ Ok (Some c.in-Ok-Some.entry)
found c = sym c.scan_step-step.ensures ∙ c.in-Ok-Some.is ∙ ap Ok (rw c.in-Ok-Some.is at c.in-Ok-Some.field-0-is)

pub loop-table-init : goal.loop-table-init
loop-table-init c = none_begun

pub overflow_sub-table : goal.overflow_sub-table
overflow_sub-table c = omega (arith, c.loop-table.invariant.same, c.loop-table.invariant.room)

pub blank_row-requires : goal.blank_row-requires
blank_row-requires c = omega (arith, c.loop-table.invariant.same, c.loop-table.invariant.room)

pub returns-then-not-blank_row : goal.returns-then-not-blank_row
returns-then-not-blank_row c =
    let i = c.loop-table.invariant in
    record { begins = begins i (full_used i (sym c.blank_row.ensures ∙ c.if-not-blank_row.true)); table_after = i.whole }

pub write_row-requires : goal.write_row-requires
write_row-requires c = omega (arith, c.loop-table.invariant.same, c.loop-table.invariant.room)

pub overflow_add-row : goal.overflow_add-row
overflow_add-row c = omega (arith, c.loop-table.invariant.same, c.loop-table.invariant.room)

pub overflow_add-count : goal.overflow_add-count
overflow_add-count c = omega (arith, reached_few c.loop-table.invariant.reached)

pub end_of-requires : goal.end_of-requires
end_of-requires c =
    let f = found (goal.at.end_of-requires c).In-Ok-Some in
    let h = part_stands _ _ _ f in
    omega (arith, h.inside, part_offset _ _ _ f)

pub loop-table-smaller : goal.loop-table-smaller
loop-table-smaller c = omega (arith, c.loop-table.invariant.same, c.loop-table.invariant.room)

pub loop-table-preserved : goal.loop-table-preserved
loop-table-preserved c =
    let i = c.loop-table.invariant in
    let f = found (goal.at.loop-table-preserved c).In-Ok-Some in
    begun_more i (sym c.blank_row.ensures ∙ c.if-not-blank_row.false) (omega (arith, i.same, i.room)) f c.write_row.ensures
    (c.position-at.ensures ∙ c.end_of.ensures)

pub returns-in-Ok-None : goal.returns-in-Ok-None
returns-in-Ok-None c =
    let i = c.loop-table.invariant in
    record { begins = begins i (sym c.scan_step-step.ensures ∙ c.in-Ok-None.is ∙ ap Ok (rw c.in-Ok-None.is at c.in-Ok-None.field-0-is)); table_after = i.whole }

pub returns-in-Err : goal.returns-in-Err
returns-in-Err c =
    let i = c.loop-table.invariant in
    record { begins = begins i (sym c.scan_step-step.ensures ∙ c.in-Err.is); table_after = i.whole }

pub returns : goal.returns
returns c =
    let i = c.loop-table.invariant in
    record { begins = begins i (full_up i (omega (arith, i.same, i.room))); table_after = i.whole }
