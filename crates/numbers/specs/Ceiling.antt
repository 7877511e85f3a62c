-- Division rounded up.
use Rattle.std.specs.Prelude.{ℕ, ◌+◌, ◌-◌, ◌/◌}

-- the least number of pieces of a size that cover a whole
unfoldable pub ceil_div : ℕ → ℕ → ℕ
ceil_div whole size = (whole + (size - 1)) / size
