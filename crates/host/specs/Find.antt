-- A marker's finding for C: its number, 0 where it is found and 257 where there is none; its offset, or a refusal's place, or what was held.
use Rattle.std.specs.Prelude.{ℕ, Option, Some, None, Result, Ok, Err}
use Rattle.types.specs.declared.CodestreamOffset.{CodestreamOffset}
use Rattle.types.specs.declared.Refusal.{Refusal}
use Rattle.types.specs.Refusals.{refusal_number}

abbrev pub finding_number : Result (Option CodestreamOffset) Refusal → ℕ
finding_number (Ok (Some offset)) = 0
finding_number (Ok None) = 257
finding_number (Err r) = refusal_number r

abbrev pub finding_value : Result (Option CodestreamOffset) Refusal → ℕ → ℕ
finding_value (Ok (Some offset)) held = offset.0
finding_value (Ok None) held = held
finding_value (Err r) held = r.place
