-- What the pass will say of the records from here on is what it says of all; each turn is one record.
use mathlib.Core.Path.{◌≡◌}
use lib.ListN.{drop}
use Rattle.std.specs.Prelude.{Some}
use Rattle.parts.specs.Order.{in_order}
use Rattle.parts.proofs.OrderLaws.{order_from}
use Rattle.parts.proofs.order.in_order.Given as goal

abbrev pub invariant-loop-i : goal.invariant-loop-i
invariant-loop-i g l =
    order_from l.tile (drop l.i (g.E.Element.layout.within l.table)) (Some l.due) ≡ in_order l.tile (g.E.Element.layout.within l.table)
