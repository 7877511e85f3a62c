-- A segment that is accepted has 6 bytes, and this is the fifth.
use native.Mathlib.Omega.{arith}
use mathlib.Core.Path.{refl}
use Rattle.header.specs.Step.{segment_end}
use Rattle.header.proofs.tlm.ztlm_at.Goals as goal

pub overflow_add-result : goal.overflow_add-result
unfolding segment_end
overflow_add-result c = omega arith

pub bounds-codestream-at : goal.bounds-codestream-at
unfolding segment_end
bounds-codestream-at c = omega arith

pub returns : goal.returns
returns c = refl
