-- Two searches, the second from where the first ended.
use Prim.Native.Nat.{◌+◌}
use mathlib.Core.Path.{ap, ◌∙◌}
use Rattle.index.specs.Run.{first_from}
use Rattle.index.proofs.run.places.Goals as goal

pub returns : goal.returns
returns c =
    let from = c.first_from-from.ensures in
    let to = c.first_from-to.ensures in
    record {
      from_value = from.value;
      to_value = to.value ∙ ap (first_from c.args.index.now (c.args.tile + 1)) from.value;
      from_le_to = to.lower_bound;
      to_in_bounds = to.upper_bound;
    }
