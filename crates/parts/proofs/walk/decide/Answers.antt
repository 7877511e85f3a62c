-- The scan is walked, then the rows are compared: each return is one of the ways that a call ends.
use Prim.Native.Nat.{ℕ}
use mathlib.Core.List.{List}
use mathlib.Core.Path.{◌≡◌, sym, ap, ◌∙◌}
use Rattle.std.specs.Prelude.{Result, Ok, Err}
use Rattle.std.proofs.lemmas.Result.{err_from_is_err_and}
use Rattle.types.specs.declared.Refusal.{Refusal}
use Rattle.parts.proofs.ScanAnswers.{answer_refused, answer_no_room, answer_table}
use Rattle.parts.specs.declared.walk.Quarters.{Quarters}
use Rattle.parts.specs.Scan.{scan_from, judged}
use Rattle.parts.specs.Walk.{walked_as}
use Rattle.parts.proofs.WalkLaws.{told, told_as}
use Rattle.parts.proofs.walk.decide.Goals as goal

-- what was walked is the scan from the offset
module _ (s : List ℕ) {start position : ℕ} {walked : Result Quarters Refusal} (same : position ≡ start)
    (is : walked ≡ walked_as s position (judged (scan_from s position))) where
  answered : walked ≡ walked_as s start (judged (scan_from s start))
  answered = is ∙ ap (λ (n : ℕ). walked_as s n (judged (scan_from s n))) same

  from : judged (scan_from s start) ≡ told walked
  from = sym (ap told answered ∙ told_as _ _ _)

  -- past a refusal, so many records were counted
  counted : {q : Quarters} → walked ≡ Ok q → judged (scan_from s start) ≡ Ok q.parts
  unfolding told
  counted table = from ∙ ap told table

pub returns-in_err-runs-clause-value : goal.returns-in_err-runs-clause-value
unfolding told walked_as
returns-in_err-runs-clause-value c =
    let e = err_from_is_err_and c.from_residual.result c.from_residual.ensures.1 in
    e.1 ∙ ap Err e.2
    ∙ ap (walked_as _ _) (sym (answer_refused _ _ _ _ (from c.args.codestream.now c.position.ensures c.walk.ensures.value ∙ ap told c.in_err-runs.was)))

pub returns-then-rows-runs : goal.returns-then-rows-runs
unfolding walked_as
returns-then-rows-runs c =
    let all = counted c.args.codestream.now c.position.ensures c.walk.ensures.value c.in_ok-runs.was in
    record { value = c.refuse.ensures ∙ ap (walked_as _ _) (sym (answer_no_room _ _ _ _ all c.if-rows-runs.true)); runs = rw c.refuse.ensures tt }

pub returns : goal.returns
returns c =
    let s = c.args.codestream.now in
    let all = counted s c.position.ensures c.walk.ensures.value c.in_ok-runs.was in
    let same = all ∙ sym (answer_table _ _ _ _ all c.if-rows-runs.false) in
    record {
      value = sym c.in_ok-runs.was ∙ answered s c.position.ensures c.walk.ensures.value ∙ ap (walked_as _ _) same;
      runs = rw (c.in_ok-runs.was, c.position.ensures) at c.walk.ensures.runs;
    }
