-- The fields of an SOT marker segment (ISO/IEC 15444-1, A.4.2) whose marker stands at a position.
use Rattle.std.specs.Prelude.{ℕ, ◌+◌, List, get_or}
use Rattle.numbers.specs.Bytes.{be}

-- the segment's length, the marker left out
abbrev pub lsot : List ℕ → ℕ → ℕ
lsot s at = be 2 s (at + 2)

-- the tile's index
abbrev pub isot : List ℕ → ℕ → ℕ
isot s at = be 2 s (at + 4)

-- the tile-part's length from the marker on
abbrev pub psot : List ℕ → ℕ → ℕ
psot s at = be 4 s (at + 6)

-- the tile-part's number among its tile's
abbrev pub tpsot : List ℕ → ℕ → ℕ
tpsot s at = get_or s (at + 10) 0

-- how many tile-parts its tile has, or 0 where that is not said
abbrev pub tnsot : List ℕ → ℕ → ℕ
tnsot s at = get_or s (at + 11) 0
