-- All components passed so far are apart; the first that is not decides.
use native.Mathlib.Omega.{arith}
use mathlib.Core.Path.{refl, sym, ap, ◌∙◌}
use Rattle.reader.specs.Components.{all_apart}
use Rattle.reader.proofs.ComponentsLaws.{apart_fails, apart_next}
use Rattle.reader.proofs.components.are_apart.Goals as goal

pub loop-k-init : goal.loop-k-init
unfolding all_apart
loop-k-init c = refl

pub returns-then-not-is_apart : goal.returns-then-not-is_apart
returns-then-not-is_apart c = sym (apart_fails _ _ _ (sym c.is_apart.ensures ∙ c.if-not-is_apart.true) (omega arith))

pub loop-k-preserved : goal.loop-k-preserved
loop-k-preserved c = apart_next _ _ c.loop-k.invariant (sym c.is_apart.ensures ∙ c.if-not-is_apart.false)

pub returns : goal.returns
returns c = sym (ap (all_apart _) (omega arith) ∙ c.loop-k.invariant)
