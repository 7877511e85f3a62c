-- Header, EOC and the parts of the rows up to here, and those of the rows that are left, are all that is needed; a sum past 2^64-1 stays there.
use Prim.Native.Nat.{ℕ, ◌+◌, ◌-◌, ◌^◌, ◌<◌, min}
use mathlib.Core.List.{List}
use mathlib.Core.Path.{◌≡◌}
use lib.ListN.{length}
use Rattle.std.specs.Slice.Iter.{chunks_exact_rest, chunks_exact_size}
use Rattle.types.specs.Row.{row_bytes}
use Rattle.tile.proofs.AssemblyRanges.{parts_left}
use Rattle.tile.specs.Assembly.{joined}
use Rattle.tile.proofs.assembly.size_needed.Given as goal

-- what was summed and what the parts of the rows that are left have are all that is needed
pub record Summed (h table s rows : List ℕ) (size : ℕ) : Type 0 where
  pub fits : size < 2 ^ 64
  pub total : min (size + length (joined (parts_left s rows))) (2 ^ 64 - 1) ≡ min (length h + 2 + length (joined (parts_left s table))) (2 ^ 64 - 1)

abbrev pub invariant-loop-row : goal.invariant-loop-row
invariant-loop-row l =
    (chunks_exact_size l.row-iterator ≡ row_bytes) × Summed l.header l.tile_parts l.codestream (chunks_exact_rest l.row-iterator) l.size
