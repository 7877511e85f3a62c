-- One test.
use mathlib.Core.Path.{sym}
use native.Mathlib.Omega.{arith}
use Rattle.index.proofs.Extended.{old_some, old_none}
use Rattle.index.proofs.extend.old_of.Goals as goal

pub returns-then-have-n : goal.returns-then-have-n
returns-then-have-n c = sym (old_some c.args.have c.args.n (omega arith))

pub returns-else-have-n : goal.returns-else-have-n
returns-else-have-n c = sym (old_none c.args.have c.args.n (omega arith))
