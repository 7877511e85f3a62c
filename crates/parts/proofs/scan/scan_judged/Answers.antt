-- The answer stands before a row is written: a refusal leaves the table, and a table's count is that of the records, whose rows fit.
use Prim.Native.Nat.{ℕ}
use mathlib.Core.List.{List}
use mathlib.Core.Path.{◌≡◌, sym, ap, ◌∙◌}
use Rattle.std.specs.Prelude.{Result, Ok, Err}
use Rattle.std.proofs.lemmas.Result.{err_from_is_err_and}
use Rattle.types.specs.declared.Refusal.{Refusal}
use Rattle.types.proofs.RowStanding.{room_for}
use Rattle.parts.proofs.ScanAnswers.{answer_counts, kept_in, filled_in}
use Rattle.parts.proofs.WalkLaws.{told, told_as}
use Rattle.parts.specs.declared.walk.Quarters.{Quarters}
use Rattle.parts.specs.Scan.{scanned}
use Rattle.parts.specs.Walk.{walked_as}
use Rattle.parts.proofs.scan.scan_judged.Goals as goal

-- what was decided is the scan's answer: past a refusal, a table of so many records
module _ (s : List ℕ) (start rows : ℕ) {answer : Result Quarters Refusal} (is : answer ≡ walked_as s start (scanned s start rows)) where
  from : scanned s start rows ≡ told answer
  from = sym (ap told is ∙ told_as _ _ _)

  counted : {q : Quarters} → answer ≡ Ok q → scanned s start rows ≡ Ok q.parts
  unfolding told
  counted table = from ∙ ap told table

  refused : {r : Refusal} → answer ≡ Err r → scanned s start rows ≡ Err r
  unfolding told
  refused e = from ∙ ap told e

pub fill-requires : goal.fill-requires
fill-requires g c =
    let n = answer_counts _ _ _ _ (counted c.args.codestream.now _ _ (rw c.WIDTH.ensures at c.decide.ensures.value) c.in_ok-runs.was) in
    record { quartered = rw (c.in_ok-runs.was, sym c.position.ensures) at c.decide.ensures.runs; parts_in_bounds = room_for g.E.Element.layout n.1 }

pub returns-in_err-runs-clause-value : goal.returns-in_err-runs-clause-value
returns-in_err-runs-clause-value g c =
    let e = err_from_is_err_and c.from_residual.result c.from_residual.ensures.1 in
    e.1 ∙ ap Err e.2 ∙ sym (refused c.args.codestream.now _ _ (rw c.WIDTH.ensures at c.decide.ensures.value) c.in_err-runs.was)

pub returns-in_err-runs-clause-table_after : goal.returns-in_err-runs-clause-table_after
returns-in_err-runs-clause-table_after g c =
    sym (kept_in g.E.Element.layout _ _ _ _ (refused c.args.codestream.now _ _ (rw c.WIDTH.ensures at c.decide.ensures.value) c.in_err-runs.was))

pub returns : goal.returns
returns g c =
    let a = counted c.args.codestream.now _ _ (rw c.WIDTH.ensures at c.decide.ensures.value) c.in_ok-runs.was in
    record {
      value = sym a;
      table_after = rw c.position.ensures at c.fill.ensures ∙ sym (filled_in g.E.Element.layout _ _ _ _ a (sym (answer_counts _ _ _ _ a).0));
    }
