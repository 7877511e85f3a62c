-- What is told of the records that are held.
use mathlib.Core.Path.{ap, ◌∙◌}
use native.Mathlib.Omega.{arith}
use Rattle.parts.specs.Order.{in_order, order_number}
use Rattle.probe.proofs.OwnLaws.{lent_own}
use Rattle.probe.proofs.order.winterhasp_records_in_order.Goals as goal

pub load-records-requires : goal.load-records-requires
load-records-requires c = record { count_bound = omega arith; count_in_bounds = omega arith }

pub returns : goal.returns
returns c =
    c.tell.ensures ∙ ap order_number (c.order_within.ensures ∙ ap (in_order c.args.tile) (lent_own c.args.table.now c.count-count.ensures c.load-records.ensures))
