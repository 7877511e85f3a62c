-- The fields of SIZ (ISO/IEC 15444-1, table A.9) in bytes where its marker stands at a position: each pair across, then down.
use Rattle.std.specs.Prelude.{ℕ, ◌+◌, ◌*◌, List, get_or}
use Rattle.numbers.specs.Bytes.{be}

-- where the first of them stands, counted from the marker: eight of 4 bytes each follow one another from there on
abbrev pub XSIZ : ℕ
XSIZ = 6

-- how many bytes the segment has behind its marker
abbrev pub lsiz : List ℕ → ℕ → ℕ
lsiz s at = be 2 s (at + 2)

-- where the image ends on the reference grid
abbrev pub xsiz : List ℕ → ℕ → ℕ
xsiz s at = be 4 s (at + XSIZ)

abbrev pub ysiz : List ℕ → ℕ → ℕ
ysiz s at = be 4 s (at + 10)

-- where it starts
abbrev pub xosiz : List ℕ → ℕ → ℕ
xosiz s at = be 4 s (at + 14)

abbrev pub yosiz : List ℕ → ℕ → ℕ
yosiz s at = be 4 s (at + 18)

-- a tile's size
abbrev pub xtsiz : List ℕ → ℕ → ℕ
xtsiz s at = be 4 s (at + 22)

abbrev pub ytsiz : List ℕ → ℕ → ℕ
ytsiz s at = be 4 s (at + 26)

-- where the first tile starts
abbrev pub xtosiz : List ℕ → ℕ → ℕ
xtosiz s at = be 4 s (at + 30)

abbrev pub ytosiz : List ℕ → ℕ → ℕ
ytosiz s at = be 4 s (at + 34)

-- how many components
abbrev pub csiz : List ℕ → ℕ → ℕ
csiz s at = be 2 s (at + 38)

-- where a component's three bytes stand, by its number from 0
abbrev pub component : ℕ → ℕ → ℕ
component at k = at + 40 + 3 * k

-- the first component's bit depth and sign, in one byte
abbrev pub ssiz : List ℕ → ℕ → ℕ
ssiz s at = get_or s (at + 40) 0
