-- Where SIZ stands in a header, and what the rewrite puts into it.
use Rattle.std.specs.Prelude.{ℕ, ◌-◌, List, ◌++◌}
use Rattle.numbers.specs.Bytes.{bytes_of}
use Rattle.types.specs.declared.Area.{Area}

-- the place of the SIZ marker, directly behind SOC
abbrev pub marker : ℕ
marker = 2

-- two fields
unfoldable pub pair : ℕ → ℕ → List ℕ
pair across down = bytes_of 4 across ++ bytes_of 4 down

-- the eight fields of an image in an area that is one tile: image end and origin, tile size and origin
unfoldable pub one_tile : Area → List ℕ
one_tile a = pair a.x1 a.y1 ++ pair a.x0 a.y0 ++ pair (a.x1 - a.x0) (a.y1 - a.y0) ++ pair a.x0 a.y0
