-- What `begin` wrote and counted is the front of the scan: where it stopped at the scan's end this is the answer, a refusal makes its rows zeros again, and else
-- the answer is that of the rows behind, with the count added.
use native.Mathlib.Omega.{arith}
use mathlib.Core.Path.{◌≡◌, refl, sym, ap, ◌∙◌}
use lib.ListN.{take}
use Rattle.std.specs.Prelude.{Err}
use Rattle.numbers.specs.Bytes.{put}
use Rattle.types.specs.Row.{rows_of}
use Rattle.parts.specs.Begin.{Begins}
use Rattle.parts.specs.Scan.{entries_from}
use Rattle.parts.proofs.BeginAnswers.{ended_answers, refused_answers, rest_fits, rest_place, rest_table, rest_refused}
use Rattle.parts.proofs.ScanAnswers.{scan_rows}
use Rattle.parts.proofs.scan.scan_sot_markers.Goals as goal
use Rattle.parts.proofs.scan.scan_sot_markers.Goals.{After-begin-begun}

-- how far it came from the first SOT, and what it wrote
begun : (c : After-begin-begun)
    → Begins c.args.codestream.now c.args.first_sot_offset.0 c.args.table.now c.begin-begun.result
    × (c.begin-begun.new.table ≡ put c.args.table.now 0 (rows_of (take c.begin-begun.result.count (entries_from c.args.codestream.now c.args.first_sot_offset.0))))
begun c = (rw c.position.ensures at c.begin-begun.ensures.begins, rw c.position.ensures at c.begin-begun.ensures.table_after)

pub overflow_add-result : goal.overflow_add-result
overflow_add-result c =
    let b = begun (goal.at.overflow_add-result c).After-begin-begun in
    let e = sym c.in-Ok.is ∙ c.scan_judged-rest.ensures.value in
    omega (arith, rest_fits b.0 b.1 c.at.ensures refl c.in-Ok.more e)

pub behind-requires : goal.behind-requires
behind-requires c =
    let b = begun (goal.at.behind-requires c).After-begin-begun in
    let e = sym c.in-Err.is ∙ c.scan_judged-rest.ensures.value in
    omega (arith, rest_place b.0 b.1 c.at.ensures refl c.in-Err.refusal e)

pub returns-in-Ended : goal.returns-in-Ended
returns-in-Ended c =
    let b = begun (goal.at.returns-in-Ended c).After-begin-begun in
    let a = ended_answers b.0 b.1 (rw c.in-Ended.is at b.0.stopped) in
    record { value = a.0; table_after = a.1 }

pub returns-in-Refused : goal.returns-in-Refused
returns-in-Refused c =
    let b = begun (goal.at.returns-in-Refused c).After-begin-begun in
    let a = refused_answers b.0 b.1 c.in-Refused.refusal (rw c.in-Refused.is at b.0.stopped) in
    record { value = a.0; table_after = c.clear.ensures ∙ a.1 }

pub returns-in-Ok : goal.returns-in-Ok
returns-in-Ok c =
    let b = begun (goal.at.returns-in-Ok c).After-begin-begun in
    let e = sym c.in-Ok.is ∙ c.scan_judged-rest.ensures.value in
    let a = rest_table b.0 b.1 c.at.ensures refl c.in-Ok.more e (c.scan_judged-rest.ensures.table_after ∙ scan_rows _ _ _) in
    record { value = a.0; table_after = a.1 }

pub returns-in-Err : goal.returns-in-Err
returns-in-Err c =
    let b = begun (goal.at.returns-in-Err c).After-begin-begun in
    let e = sym c.in-Err.is ∙ c.scan_judged-rest.ensures.value in
    let a = rest_refused b.0 b.1 c.at.ensures refl c.in-Err.refusal e (c.scan_judged-rest.ensures.table_after ∙ scan_rows _ _ _) in
    record { value = ap Err c.behind.ensures ∙ a.0; table_after = c.clear-in-Err.ensures ∙ a.1 }
