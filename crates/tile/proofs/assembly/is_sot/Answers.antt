-- The two tests, in the definition's order.
use lib.ListN.{length}
use borrow.Author.Tests.{le-leb, lt-leb}
use borrow.Author.Rules.{rules}
use Rattle.tile.specs.Assembly.{is_sot}
use Rattle.tile.proofs.assembly.is_sot.Goals as goal

pub returns-then-part-ge6 : goal.returns-then-part-ge6
unfolding is_sot
returns-then-part-ge6 c =
    rw (le-leb 6 (length c.args.part.now) (search rules), ← c.read_u16.ensures)

pub returns-else-part-ge6 : goal.returns-else-part-ge6
unfolding is_sot
returns-else-part-ge6 c = rw (lt-leb 6 (length c.args.part.now) (search rules))
