-- The keys of the new entries, sorted, are their index.
use native.Mathlib.Omega.{arith}
use mathlib.Core.Path.{ap, ◌∙◌}
use lib.ListN.{take, drop, length-drop}
use Rattle.index.specs.Sort.{sorted}
use Rattle.index.specs.Merge.{merged}
use Rattle.index.proofs.SortLaws.{sorted_index}
use Rattle.index.proofs.extend.append.Goals as goal

pub returns : goal.returns
returns g c =
    let es = g.E.Element.layout.within c.args.table.now in
    let new = ap sorted c.fill.ensures ∙ sorted_index c.args.old (drop c.args.old es) (omega (arith, length-drop c.args.old es, g.E.Element.layout.count c.args.table.now)) in
    record { index_after = c.add.ensures.index_after ∙ ap (merged (take c.args.old c.args.index.now)) new; after = c.add.ensures.after ∙ new }
