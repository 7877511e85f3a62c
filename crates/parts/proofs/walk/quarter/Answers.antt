-- The marks are read at the run's length in marks, and at twice and three times it; that length is at most 15, so its tile-parts fit.
use Prim.Native.Nat.{◌^◌, ◌/◌, ◌≤◌}
use native.Mathlib.Nat.{mul-le-mul}
use native.Mathlib.Omega.{arith}
use Rattle.parts.proofs.walk.quarter.Goals as goal

pub overflow_mul-result : goal.overflow_mul-result
overflow_mul-result c =
    let few : c.saturating_sub-run.result / 4 ≤ 15 = omega arith in
    let wide : c.args.stride ≤ 2 ^ 59 = omega arith in
    omega (arith, mul-le-mul few wide)

pub returns : goal.returns
returns c = rw c.saturating_sub-run.ensures
