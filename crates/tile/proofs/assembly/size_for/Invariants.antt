-- The rows that are left choose what all rows do: a dropped range is none of them, and a kept one is the first, whose Isot is there if it starts with SOT.
use mathlib.Core.Path.{◌≡◌}
use Rattle.std.specs.Slice.Iter.{chunks_exact_rest, chunks_exact_size}
use Rattle.types.specs.Row.{row_bytes}
use Rattle.tile.proofs.AssemblyRanges.{parts_left}
use Rattle.tile.specs.Assembly.{size_for}
use Rattle.tile.proofs.assembly.size_for.Given as goal

abbrev pub invariant-loop-row : goal.invariant-loop-row
invariant-loop-row l =
    (chunks_exact_size l.row-iterator ≡ row_bytes)
    × (size_for l.rule l.header (parts_left l.codestream (chunks_exact_rest l.row-iterator)) ≡ size_for l.rule l.header (parts_left l.codestream l.tile_parts))
