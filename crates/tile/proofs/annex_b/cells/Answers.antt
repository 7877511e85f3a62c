-- What is divided is the definition's; a grid has a tile size.
use native.Mathlib.Omega.{arith}
use Rattle.tile.specs.AnnexB.{cells_of}
use Rattle.tile.proofs.AnnexBLaws.{Laid, laid_is}
use Rattle.tile.proofs.annex_b.cells.Goals as goal

pub overflow_sub-side : goal.overflow_sub-side
overflow_sub-side c = let l : Laid c.args.side = laid_is _ c.requires in omega arith

pub ceil_div-requires : goal.ceil_div-requires
ceil_div-requires c = (laid_is _ c.requires).size

pub returns : goal.returns
unfolding cells_of
returns c = c.ceil_div.ensures
