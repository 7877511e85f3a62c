-- The test of the high byte is the definition's.
use mathlib.Core.Path.{refl}
use Rattle.header.specs.Step.{high_ff}
use Rattle.header.proofs.step.Marker.new.Goals as goal

pub returns : goal.returns
unfolding high_ff
returns c = refl
