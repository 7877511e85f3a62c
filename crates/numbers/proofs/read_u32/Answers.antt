-- Two halves that were read, joined by the law over the width.
use native.Mathlib.Omega.{arith}
use Rattle.numbers.proofs.BytesLaws.{be_join}
use Rattle.numbers.proofs.read_u32.Goals as goal

pub returns : goal.returns
returns c =
    let a = c.args in
    omega (arith, be_join 2 2 a.s.now a.at, c.read_u16.ensures, c.read_u16-2.ensures)
