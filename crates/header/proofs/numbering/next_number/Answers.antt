-- By the numbering, and where it carries on by whether there is an index.
use Prim.Native.Nat.{ℕ, ◌+◌}
use native.Mathlib.Omega.{arith}
use mathlib.Core.Path.{sym, ap, ◌∙◌}
use Rattle.header.specs.Step.{segment_end}
use Rattle.header.specs.Numbering.{next_number}
use Rattle.header.specs.declared.numbering.Numbering.{Numbering}
use Rattle.header.proofs.TlmFill.{count_bound}
use Rattle.header.proofs.NumberingLaws.{next_restarts, next_counts, next_stays}
use Rattle.header.proofs.numbering.next_number.Goals as goal

pub returns-in-Restarting : goal.returns-in-Restarting
returns-in-Restarting c =
    sym (ap (λ (n : Numbering). next_number n c.args.codestream.now c.args.at c.args.first) c.in-Restarting.is ∙ next_restarts _ _ _)

pub overflow_add-at : goal.overflow_add-at
unfolding segment_end
overflow_add-at c = omega arith

pub bounds-codestream-at : goal.bounds-codestream-at
unfolding segment_end
bounds-codestream-at c = omega arith

pub overflow_add-result : goal.overflow_add-result
overflow_add-result c =
    omega (arith, count_bound c.args.codestream.now c.args.at (λ i. omega (arith, c.type_inv.codestream i)))

pub returns-in-CarriedOn : goal.returns-in-CarriedOn
returns-in-CarriedOn c =
    sym (ap (λ (n : Numbering). next_number n c.args.codestream.now c.args.at c.args.first) c.in-CarriedOn.is
    ∙ next_counts _ _ _ (omega (arith, c.index_size.ensures, c.if-index_size-eq0.true))
    ∙ ap (λ (m : ℕ). c.args.first + m) (sym c.requires.count_value))

pub returns-in-CarriedOn-2 : goal.returns-in-CarriedOn-2
returns-in-CarriedOn-2 c =
    sym (ap (λ (n : Numbering). next_number n c.args.codestream.now c.args.at c.args.first) c.in-CarriedOn.is
    ∙ next_stays _ _ _ (λ e. omega (arith, c.index_size.ensures, c.if-index_size-eq0.false)))
