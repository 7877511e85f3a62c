-- At the loop's head each mark has a stride of records behind it, all these were counted, and the stride is doubled as their number has it. Every other mark
-- has twice the stride; a full pass has one stride more; and where the scan ends, the marks give the runs.
use Prim.Native.Nat.{ℕ, ◌^◌, ◌*◌, ◌≤◌, ◌<◌}
use mathlib.Core.List.{List}
use mathlib.Core.Path.{◌≡◌}
use lib.ListN.{length}
use Rattle.parts.proofs.WalkLaws.{Marked, Doubled}
use Rattle.parts.specs.Scan.{entries_from}
use Rattle.parts.specs.Walk.{Reached}
use Rattle.parts.proofs.walk.walk.Given as goal

pub record Going (s : List ℕ) (start : ℕ) (marks : List ℕ) (used stride at count : ℕ) : Type 0 where
  pub few : used ≤ 64
  pub size : length marks ≡ 64
  pub some : 0 < stride
  pub small : stride < 2 ^ 59
  pub even : count ≡ used * stride
  pub reached : Reached s start at count
  pub marked : Marked s start stride used marks
  pub doubled : Doubled stride count
  pub begun : used ≡ 0 → at ≡ start

abbrev pub invariant-loop-used : goal.invariant-loop-used
invariant-loop-used l = Going l.codestream l.start l.marks l.used l.stride l.at l.count

abbrev pub decreases-loop-used : goal.decreases-loop-used
decreases-loop-used l = length (entries_from l.codestream l.at)
