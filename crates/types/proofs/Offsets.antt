-- What the answer of a conversion says: the sum or the difference where there is one, and else that it does not fit.
use Prim.Native.Nat.{ℕ, ◌+◌, ◌-◌, ◌^◌, ◌≤◌}
use native.Mathlib.Omega.{arith}
use mathlib.Core.Path.{◌≡◌, refl}
use lib.Dec.{leb, ltb}
use borrow.Author.Tests.{leb-false, ltb-false}
use Rattle.std.specs.Prelude.{Option, Some, None}
use Rattle.numbers.proofs.Choice.{by_test}
use Rattle.types.specs.Offsets.{in_file, in_codestream}
use Rattle.types.specs.declared.FileOffset.{FileOffset}
use Rattle.types.specs.declared.CodestreamOffset.{CodestreamOffset}

abbrev pub Sum : ℕ → Option FileOffset → Type 0
Sum n (Some place) = place.0 ≡ n
Sum n None = 2 ^ 64 ≤ n

pub in_file_sum : (o : CodestreamOffset) (start : FileOffset) → Sum (start.0 + o.0) (in_file o start)
in_file_sum o start = by_test (Sum (start.0 + o.0)) (ltb (start.0 + o.0) (2 ^ 64)) (λ _. refl) (λ e. ltb-false _ _ e)

abbrev pub Difference : ℕ → Option CodestreamOffset → Type 0
Difference n (Some place) = place.0 ≡ n
Difference n None = n ≡ 0

pub in_codestream_difference : (o start : FileOffset) → Difference (o.0 - start.0) (in_codestream o start)
in_codestream_difference o start =
    by_test (Difference (o.0 - start.0)) (leb start.0 o.0) (λ _. refl) (λ e. omega (arith, leb-false start.0 o.0 e))
