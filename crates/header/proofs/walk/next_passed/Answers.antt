-- The step's answer, or nothing.
use mathlib.Core.Path.{ap, ◌∙◌}
use Rattle.std.specs.Prelude.{None}
use Rattle.std.specs.Result.{result_unwrap_or}
use Rattle.header.specs.Walk.{next_at}
use Rattle.header.proofs.walk.next_passed.Goals as goal

pub returns : goal.returns
unfolding next_at
returns c = c.unwrap_or.ensures ∙ ap (λ step. result_unwrap_or step None) c.walk_step.ensures
