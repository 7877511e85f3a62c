-- What is left between the two ends finds what the whole search finds; each turn halves it.
use native.Mathlib.Omega.{arith}
use Rattle.index.proofs.RunLaws.{all_left, turn_right, turn_left, found}
use Rattle.index.proofs.run.first_from.Goals as goal

pub loop-lo-init : goal.loop-lo-init
loop-lo-init c = all_left (omega arith) (omega arith)

pub loop-lo-preserved-then-tile_of-tile : goal.loop-lo-preserved-then-tile_of-tile
loop-lo-preserved-then-tile_of-tile c =
    turn_right c.loop-lo-test.true c.tile_of.ensures c.if-tile_of-tile.true c.loop-lo.invariant

pub loop-lo-preserved : goal.loop-lo-preserved
loop-lo-preserved c =
    turn_left c.loop-lo-test.true c.tile_of.ensures c.if-tile_of-tile.false c.loop-lo.invariant

pub returns : goal.returns
returns c =
    record { value = found c.loop-lo-test.false c.loop-lo.invariant; lower_bound = c.loop-lo.invariant.after; upper_bound = omega arith }
