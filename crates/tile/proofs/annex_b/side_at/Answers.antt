-- Each of the four fields is the definition's.
use Rattle.tile.specs.AnnexB.{side_at}
use Rattle.tile.proofs.annex_b.side_at.Goals as goal

pub returns : goal.returns
unfolding side_at
returns c =
    λ i. record {
      end = c.field.ensures i;
      origin = c.field-2.ensures i;
      size = c.field-3.ensures i;
      tile_origin = c.field-4.ensures i;
    }
