-- As many tile-parts as were counted lie between the start and here; each turn is one more, and where it stops that is the contract.
use native.Mathlib.Omega.{arith}
use mathlib.Core.Path.{◌≡◌, sym, ap, ◌∙◌}
use Rattle.std.specs.Prelude.{Some, Ok}
use Rattle.parts.proofs.ScanLaws.{part_stands, part_offset}
use Rattle.parts.proofs.WalkLaws.{reached_start, reached_next}
use Rattle.parts.specs.Scan.{scan_step_at}
use Rattle.parts.proofs.walk.pass.Goals as goal
use Rattle.parts.proofs.walk.pass.Goals.{In-Ok-Some}

-- the step's answer taken apart: the tile-part that stands here
found : (c : In-Ok-Some) → scan_step_at c.args.codestream.now c.loop-count.at ≡ Ok (Some c.in-Ok-Some.entry)
found c = sym c.scan_step-step.ensures ∙ c.in-Ok-Some.is ∙ ap Ok (rw c.in-Ok-Some.is at c.in-Ok-Some.field-0-is)

pub loop-count-init : goal.loop-count-init
loop-count-init c = (omega arith, reached_start)

pub overflow_add-count : goal.overflow_add-count
overflow_add-count c = omega arith

pub end_of-requires : goal.end_of-requires
end_of-requires c =
    let f = found (goal.at.end_of-requires c).In-Ok-Some in
    let h = part_stands _ _ _ f in
    omega (arith, part_offset _ _ _ f)

pub loop-count-smaller : goal.loop-count-smaller
loop-count-smaller c = omega arith

pub loop-count-preserved : goal.loop-count-preserved
loop-count-preserved c =
    let f = found (goal.at.loop-count-preserved c).In-Ok-Some in
    (omega arith, reached_next f (c.position-at.ensures ∙ c.end_of.ensures) c.loop-count.invariant.1)

pub returns-in-Ok-None : goal.returns-in-Ok-None
returns-in-Ok-None c =
    let i = c.loop-count.invariant in
    record { few = i.0; reached = i.1; stopped = (omega arith, sym c.scan_step-step.ensures ∙ c.in-Ok-None.is ∙ ap Ok (rw c.in-Ok-None.is at c.in-Ok-None.field-0-is)) }

pub returns-in-Err : goal.returns-in-Err
returns-in-Err c =
    let i = c.loop-count.invariant in
    record { few = i.0; reached = i.1; stopped = sym c.scan_step-step.ensures ∙ c.in-Err.is }

pub returns : goal.returns
returns c = let i = c.loop-count.invariant in record { few = i.0; reached = i.1; stopped = omega arith }
