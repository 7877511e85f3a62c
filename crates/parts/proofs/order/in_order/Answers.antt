-- What the pass will say of the records from here on is what it says of all; each turn is one record.
use Prim.Native.Nat.{ℕ, ◌+◌, ◌/◌}
use native.Mathlib.Omega.{arith}
use mathlib.Core.Path.{◌≡◌, sym, ap, ◌∙◌}
use lib.ListN.{length, drop, drop_of_length-le}
use Rattle.parts.specs.Order.{in_order}
use Rattle.parts.proofs.OrderLaws.{order_from, order_none, order_next, order_broken, order_whole}
use Rattle.parts.proofs.order.in_order.Goals as goal
use Rattle.parts.proofs.order.in_order.Goals.{After-order_step}

-- the record here is passed
turn : (g : _) (c : After-order_step g)
    → order_from c.args.tile (drop (c.loop-i.i + 1) (g.E.Element.layout.within c.args.table.now)) c.order_step.result
    ≡ in_order c.args.tile (g.E.Element.layout.within c.args.table.now)
turn g c =
    ap (order_from c.args.tile (drop (c.loop-i.i + 1) (g.E.Element.layout.within c.args.table.now))) c.order_step.ensures
    ∙ sym (order_next c.args.tile c.loop-i.due c.read.ensures)
    ∙ c.loop-i.invariant

pub loop-i-init : goal.loop-i-init
loop-i-init g c = order_whole _ _

pub returns-in_default : goal.returns-in_default
returns-in_default g c =
    sym (order_broken _ _) ∙ ap (order_from _ _) (sym c.in_default.is) ∙ turn g (goal.at.returns-in_default g c).After-order_step

pub loop-i-preserved : goal.loop-i-preserved
loop-i-preserved g c =
    ap (order_from _ _) (sym c.in-Some.is) ∙ turn g (goal.at.loop-i-preserved g c).After-order_step

pub returns : goal.returns
returns g c =
    let es = g.E.Element.layout.within c.args.table.now in
    let many = g.E.Element.layout.count c.args.table.now ∙ ap (λ (n : ℕ). length c.args.table.now / n) (sym c.WIDTH.ensures) in
    c.order_end.ensures
    ∙ sym (order_none c.args.tile c.loop-i.due (drop_of_length-le es (omega (arith, many))))
    ∙ c.loop-i.invariant
