-- The parts of the rows that are left, put where the next goes, make the output that all parts make of the one lent; a turn puts one, or drops its range.
use Prim.Native.Nat.{ℕ, ◌+◌}
use mathlib.Core.List.{List}
use mathlib.Core.Path.{◌≡◌}
use lib.ListN.{length}
use Rattle.std.specs.Slice.Iter.{chunks_exact_rest, chunks_exact_size}
use Rattle.types.specs.Row.{row_bytes}
use Rattle.tile.proofs.AssemblyRanges.{parts_left}
use Rattle.tile.specs.Assembly.{joined}
use Rattle.numbers.specs.Bytes.{put}
use Rattle.tile.proofs.assembly.write_parts.Given as goal

-- the parts that are left, put where the next goes, make the output that all parts make of the one lent
pub record Filled (table source lent : List ℕ) (start : ℕ) (s rows out : List ℕ) (place : ℕ) : Type 0 where
  pub same : length out ≡ length lent
  pub ends : place + length (joined (parts_left s rows)) ≡ start + length (joined (parts_left source table))
  pub whole : put out place (joined (parts_left s rows)) ≡ put lent start (joined (parts_left source table))

abbrev pub invariant-loop-row : goal.invariant-loop-row
invariant-loop-row l =
    (chunks_exact_size l.row-iterator ≡ row_bytes)
    × Filled l.tile_parts l.initial.codestream l.initial.out l.start l.codestream (chunks_exact_rest l.row-iterator) l.out l.place
