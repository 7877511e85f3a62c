-- The three bytes are the definition's, and neither step is 0.
use mathlib.Core.Bool.{and-eq-true_iff}
use lib.ListN.{get_or}
use lib.Dec.{leb}
use Prim.Native.Nat.{◌+◌, ◌%◌}
use borrow.Author.Tests.{leb-true}
use Rattle.reader.specs.Components.{apart, component_at}
use Rattle.reader.proofs.components.component_at.Goals as goal

pub divide_area-requires : goal.divide_area-requires
unfolding apart
divide_area-requires c =
    let t = (and-eq-true_iff (leb 1 (get_or c.args.codestream.now (c.args.at + 1) 0)) _).0 c.requires.at_value in
    (leb-true _ _ t.0, leb-true _ _ t.1)

pub returns : goal.returns
unfolding component_at
returns c =
    λ i. record {
      bits = get_or c.args.codestream.now c.args.at 0 % 128 + 1;
      is_signed = leb 128 (get_or c.args.codestream.now c.args.at 0);
      xrsiz = get_or c.args.codestream.now (c.args.at + 1) 0;
      yrsiz = get_or c.args.codestream.now (c.args.at + 2) 0;
      area = c.divide_area.ensures i;
    }
