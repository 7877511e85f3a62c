-- All components passed so far are apart; the first that is not decides.
use mathlib.Core.Path.{◌≡◌}
use mathlib.Core.Bool.{true}
use Rattle.reader.specs.Components.{all_apart}
use Rattle.reader.proofs.components.are_apart.Given as goal

abbrev pub invariant-loop-k : goal.invariant-loop-k
invariant-loop-k l = all_apart l.codestream l.k ≡ true
