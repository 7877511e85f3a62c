-- The first two tests in one, and then the third, are the definition's three: by cases on the first.
use native.Mathlib.Omega.{arith}
use Rattle.std.proofs.lemmas.Bool.Decides.{nat_tests}
use Rattle.parts.specs.Begin.{blank_at}
use Rattle.parts.proofs.scan.blank_row.Goals as goal
use Rattle.parts.proofs.scan.blank_row.Goals.{then-read_u64-eq0, else-read_u64-eq0}

pub returns-then-read_u64-eq0-2 : goal.returns-then-read_u64-eq0-2
unfolding blank_at
returns-then-read_u64-eq0-2 c =
    elim c.if-read_u64-eq0.branch [ then-read_u64-eq0 w ↦ grind (arith, nat_tests) | else-read_u64-eq0 w ↦ grind (arith, nat_tests) ]

pub returns-else-read_u64-eq0-2 : goal.returns-else-read_u64-eq0-2
unfolding blank_at
returns-else-read_u64-eq0-2 c =
    elim c.if-read_u64-eq0.branch [ then-read_u64-eq0 w ↦ grind (arith, nat_tests) | else-read_u64-eq0 w ↦ grind (arith, nat_tests) ]
