-- The check of a length table for C: its number, 0 where it passes and 258 where it differs; the entry's number, or a refusal's place; and of an entry that
-- differs where it stands, what is listed and what stands there. What is not told is as it was held.
use Rattle.std.specs.Prelude.{ℕ, Option, Some, None, Result, Ok, Err}
use Rattle.lengths.specs.declared.check.Said.{Said}
use Rattle.lengths.specs.declared.check.Difference.{Difference}
use Rattle.types.specs.declared.Refusal.{Refusal}
use Rattle.types.specs.Refusals.{refusal_number}

-- 65,536, which is no tile's index, and 0 where nothing is said
abbrev pub said_tile : Option Said → ℕ
said_tile (Some said) = said.tile
said_tile None = 65_536

abbrev pub said_length : Option Said → ℕ
said_length (Some said) = said.length
said_length None = 0

abbrev pub check_number : Result (Option Difference) Refusal → ℕ
check_number (Ok None) = 0
check_number (Ok (Some d)) = 258
check_number (Err r) = refusal_number r

abbrev pub check_value : Result (Option Difference) Refusal → ℕ → ℕ
check_value (Ok None) held = held
check_value (Ok (Some d)) held = d.number
check_value (Err r) held = r.place

abbrev pub check_offset : Result (Option Difference) Refusal → ℕ → ℕ
check_offset (Ok None) held = held
check_offset (Ok (Some d)) held = d.offset.0
check_offset (Err r) held = held

abbrev pub check_listed_tile : Result (Option Difference) Refusal → ℕ → ℕ
check_listed_tile (Ok None) held = held
check_listed_tile (Ok (Some d)) held = said_tile d.listed
check_listed_tile (Err r) held = held

abbrev pub check_listed_length : Result (Option Difference) Refusal → ℕ → ℕ
check_listed_length (Ok None) held = held
check_listed_length (Ok (Some d)) held = said_length d.listed
check_listed_length (Err r) held = held

abbrev pub check_standing_tile : Result (Option Difference) Refusal → ℕ → ℕ
check_standing_tile (Ok None) held = held
check_standing_tile (Ok (Some d)) held = said_tile d.standing
check_standing_tile (Err r) held = held

abbrev pub check_standing_length : Result (Option Difference) Refusal → ℕ → ℕ
check_standing_length (Ok None) held = held
check_standing_length (Ok (Some d)) held = said_length d.standing
check_standing_length (Err r) held = held
