-- The extent's answer for C: 1 where the header is complete, and then the first SOT's offset in `value`, which stays otherwise.
use Rattle.std.specs.Prelude.{ℕ, Option, Some, None}
use Rattle.types.specs.declared.CodestreamOffset.{CodestreamOffset}

abbrev pub extent_number : Option CodestreamOffset → ℕ
extent_number (Some o) = 1
extent_number None = 0

abbrev pub extent_value : Option CodestreamOffset → ℕ → ℕ
extent_value (Some o) held = o.0
extent_value None held = held
