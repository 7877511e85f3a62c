-- The keys that are stored, before those of the entries that are left: the same before a turn and after it.
use native.Mathlib.Omega.{arith}
use lib.ListN.{length-set}
use Rattle.index.proofs.Extended.{filled_one, filled_all}
use Rattle.index.proofs.extend.fill.Goals as goal

pub loop-i-preserved : goal.loop-i-preserved
loop-i-preserved g c =
    let l = c.loop-i in (
      omega arith,
      simp length-set l.invariant.1,
      filled_one (g.E.Element.layout.within c.args.table.now) c.args.first l.keys l.i c.key_of.result (omega arith) c.read-entry.ensures c.key_of.ensures l.invariant.2,
    )

pub returns : goal.returns
returns g c =
    let es = g.E.Element.layout.within c.args.table.now in
    filled_all es c.args.first c.loop-i.keys c.loop-i.i (omega arith) (omega (arith, g.E.Element.layout.count c.args.table.now)) c.loop-i.invariant.2
