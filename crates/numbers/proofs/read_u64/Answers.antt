-- Two halves that were read, joined by the law over the width.
use native.Mathlib.Omega.{arith}
use Rattle.numbers.proofs.BytesLaws.{be_join}
use Rattle.numbers.proofs.read_u64.Goals as goal

pub returns : goal.returns
returns c =
    let a = c.args in
    omega (arith, be_join 4 4 a.s.now a.at, c.read_u32.ensures, c.read_u32-2.ensures)
