-- A segment that is accepted has both fields.
use native.Mathlib.Omega.{arith}
use mathlib.Core.Path.{◌∙◌}
use Rattle.header.specs.Tlm.{entry_count}
use Rattle.header.specs.Step.{segment_end}
use Rattle.header.proofs.tlm.entry_count.Goals as goal

pub overflow_add-at : goal.overflow_add-at
unfolding segment_end
overflow_add-at c = omega arith

pub read_u16-requires : goal.read_u16-requires
unfolding segment_end
read_u16-requires c = omega arith

pub overflow_add-at-2 : goal.overflow_add-at-2
unfolding segment_end
overflow_add-at-2 c = omega arith

pub bounds-codestream-at : goal.bounds-codestream-at
unfolding segment_end
bounds-codestream-at c = omega arith

pub returns : goal.returns
unfolding entry_count
returns c = c.whole_entries.ensures ∙ rw c.read_u16.ensures
