-- The cell starts before the image ends, so that a u64 holds where it ends.
use native.Mathlib.Omega.{arith}
use mathlib.Core.Bool.{true}
use mathlib.Core.Path.{◌≡◌, ap, ◌∙◌}
use Prim.Native.Nat.{ℕ, ◌+◌, ◌*◌, ◌<◌, min}
use Rattle.tile.specs.AnnexB.{laid, cells_of, from_of, to_of}
use Rattle.tile.specs.declared.annex_b.Side.{Side}
use Rattle.tile.proofs.AnnexBLaws.{laid_is, next_cell, cell_starts}
use Rattle.tile.proofs.annex_b.span_of.Goals as goal

-- below the end of the image, a u32
starts : (side : Side) (cell : ℕ) → laid side ≡ true → cell < cells_of side → side.tile_origin + cell * side.size < side.end
starts side cell grid inside = cell_starts side (laid_is side grid) cell inside

pub overflow_mul-from : goal.overflow_mul-from
overflow_mul-from c = omega (arith, starts _ _ c.requires.side_value c.requires.cell_bound)

pub overflow_add-from : goal.overflow_add-from
overflow_add-from c = omega (arith, starts _ _ c.requires.side_value c.requires.cell_bound)

pub overflow_add-to : goal.overflow_add-to
overflow_add-to c = omega (arith, starts _ _ c.requires.side_value c.requires.cell_bound)

pub overflow_cast-result : goal.overflow_cast-result
overflow_cast-result c = omega (arith, starts _ _ c.requires.side_value c.requires.cell_bound)

pub returns : goal.returns
unfolding from_of to_of
returns c =
    (c.max.ensures, c.min.ensures ∙ ap (λ (n : ℕ). min n c.args.side.end) (omega (arith, next_cell c.args.cell c.args.side.size)))
