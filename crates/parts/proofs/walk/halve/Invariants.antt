-- Below here stands every other mark as it was, and from here on each mark as it was; twice an index is at or past it.
use Prim.Native.Nat.{ℕ, ◌*◌, ◌≤◌, ◌<◌}
use mathlib.Core.Path.{◌≡◌}
use lib.ListN.{length, get_or}
use Rattle.parts.proofs.walk.halve.Given as goal

abbrev pub invariant-loop-i : goal.invariant-loop-i
invariant-loop-i l =
    (length l.marks ≡ 64) × ((j : ℕ) → j < l.i → get_or l.marks j 0 ≡ get_or l.initial.marks (2 * j) 0)
    × ((j : ℕ) → l.i ≤ j → get_or l.marks j 0 ≡ get_or l.initial.marks j 0)
