-- What is sorted is merged: the old keys stand before the part that the sort made use of.
use Prim.Native.Nat.{◌-◌}
use native.Mathlib.Omega.{arith}
use mathlib.Core.Path.{ap₂, ◌∙◌}
use lib.ListN.{length}
use borrow.Rule.Slice.PartMut.{take_put}
use Rattle.index.specs.Merge.{merged}
use Rattle.index.proofs.extend.add.Goals as goal

pub returns : goal.returns
returns c =
    let old = take_put c.args.have (length c.args.index.now - c.args.have) c.args.index.now c.sort.new.other (omega arith) in
    record { index_after = c.merge.ensures ∙ ap₂ merged old c.sort.ensures; after = c.sort.ensures }
