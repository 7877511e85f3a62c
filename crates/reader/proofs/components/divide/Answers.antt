-- No more pieces than the place itself has points.
use native.Mathlib.Omega.{arith}
use native.Mathlib.Nat.{le-mul_of_pos_right}
use Rattle.numbers.proofs.BytesLaws.{ceil_least}
use Rattle.reader.proofs.components.divide.Goals as goal

pub overflow_cast-result : goal.overflow_cast-result
overflow_cast-result c =
    omega (arith, c.ceil_div.ensures, ceil_least c.args.place c.args.place c.requires (le-mul_of_pos_right c.args.place c.requires))
