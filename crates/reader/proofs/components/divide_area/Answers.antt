-- Each of the four ends is divided by its axis' step.
use Rattle.reader.specs.Components.{divided}
use Rattle.reader.proofs.components.divide_area.Goals as goal

pub returns : goal.returns
unfolding divided
returns c =
    λ i. record {
      x0 = c.divide.ensures i;
      y0 = c.divide-2.ensures i;
      x1 = c.divide-3.ensures i;
      y1 = c.divide-4.ensures i;
    }
