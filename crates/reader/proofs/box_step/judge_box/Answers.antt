-- At each return the tests that led there choose the case of the definition.
use Prim.Native.Nat.{◌+◌, ◌^◌, ◌≤◌, ◌<◌}
use native.Mathlib.Omega.{arith}
use mathlib.Core.Path.{sym, ◌∙◌}
use Rattle.reader.proofs.BoxStepLaws.{judged_28, judged_16, judged_27, judged_other, judged_empty, judged_29, judged_superbox}
use Rattle.reader.proofs.box_step.judge_box.Goals as goal
use Rattle.reader.proofs.box_step.judge_box.Goals.{then-not-is_superbox-via-then-not-is_superbox, then-not-is_superbox-via-else-not-is_superbox+then-entry-eq0}

pub returns-then-found : goal.returns-then-found
returns-then-found c = c.refuse.ensures ∙ sym (judged_28 _ _ _ _ c.if-found.true)

pub returns-in_default : goal.returns-in_default
returns-in_default c = c.refuse-in_default.ensures ∙ sym (judged_16 _ _ _ _ (omega arith) (omega (arith, c.in_default.ensures)))

pub returns-then-size-end : goal.returns-then-size-end
returns-then-size-end c =
    c.refuse-then-size-end.ensures ∙ sym (judged_27 _ _ _ _ (omega arith) (omega (arith, c.in-Some.ensures)) (omega (arith, c.in-Some.ensures)))

pub returns-then-not-is_superbox : goal.returns-then-not-is_superbox
returns-then-not-is_superbox c =
    let fits : c.args.at + c.args.found.length < 2 ^ 64 = omega (arith, c.in-Some.ensures) in
    let inside : c.args.at + c.args.found.length ≤ c.args.size = omega (arith, c.in-Some.ensures) in
    elim c.then-not-is_superbox.branch [
      | then-not-is_superbox-via-then-not-is_superbox w ↦
          sym (judged_other _ _ _ _ (omega arith) fits inside (sym c.is_superbox.ensures ∙ w.if-not-is_superbox.true))
      | then-not-is_superbox-via-else-not-is_superbox+then-entry-eq0 w ↦ sym (judged_empty _ _ _ _ (omega arith) fits inside (omega (arith, w.if-entry-eq0.true)))
    ]

pub returns-then-depth-ge-DEEPEST : goal.returns-then-depth-ge-DEEPEST
returns-then-depth-ge-DEEPEST c =
    let opens = sym c.is_superbox.ensures ∙ c.if-not-is_superbox.false in
    let fits : c.args.at + c.args.found.length < 2 ^ 64 = omega (arith, c.in-Some.ensures) in
    let inside : c.args.at + c.args.found.length ≤ c.args.size = omega (arith, c.in-Some.ensures) in
    c.refuse-then-depth-ge-DEEPEST.ensures ∙ sym (judged_29 _ _ _ _ (omega arith) fits inside opens (λ e. c.if-entry-eq0.false (omega arith)) (omega arith))

pub returns : goal.returns
returns c =
    let opens = sym c.is_superbox.ensures ∙ c.if-not-is_superbox.false in
    let fits : c.args.at + c.args.found.length < 2 ^ 64 = omega (arith, c.in-Some.ensures) in
    let inside : c.args.at + c.args.found.length ≤ c.args.size = omega (arith, c.in-Some.ensures) in
    sym (judged_superbox _ _ _ _ (omega arith) fits inside opens (λ e. c.if-entry-eq0.false (omega arith)) (omega arith))
