-- A place in a file for C: 1 where there is one, and then the place in `value`, which stays otherwise.
use Rattle.std.specs.Prelude.{ℕ, Option, Some, None}
use Rattle.types.specs.declared.FileOffset.{FileOffset}

abbrev pub place_number : Option FileOffset → ℕ
place_number (Some place) = 1
place_number None = 0

abbrev pub place_value : Option FileOffset → ℕ → ℕ
place_value (Some place) held = place.0
place_value None held = held
