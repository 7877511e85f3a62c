-- Each of the four fields is the definition's.
use Rattle.tile.specs.Rules.{image_area}
use Rattle.tile.proofs.rules.image_area.Goals as goal

pub returns : goal.returns
unfolding image_area
returns c =
    λ i. record {
      x0 = c.field.ensures i;
      y0 = c.field-2.ensures i;
      x1 = c.field-3.ensures i;
      y1 = c.field-4.ensures i;
    }
