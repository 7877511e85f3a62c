-- The tile's run is between the place where the tile starts and, from there on, the next tile's.
use Rattle.index.proofs.RunLaws.{run_between}
use Rattle.index.proofs.run.tile_run.Goals as goal

pub returns : goal.returns
returns c =
    run_between c.args.index.now c.args.tile c.places.ensures.from_value c.places.ensures.to_value
