-- Marker codes of ISO/IEC 15444-1, table A.2.
use Rattle.std.specs.Prelude.{ℕ}

-- start of codestream
abbrev pub SOC : ℕ
SOC = 0xff4f

-- extended capabilities
abbrev pub CAP : ℕ
CAP = 0xff50

-- image and tile size
abbrev pub SIZ : ℕ
SIZ = 0xff51

-- tile-part lengths
abbrev pub TLM : ℕ
TLM = 0xff55

-- start of tile-part
abbrev pub SOT : ℕ
SOT = 0xff90

-- end of codestream
abbrev pub EOC : ℕ
EOC = 0xffd9

-- ---- markers that only the standard's own definitions name

-- start of data
abbrev pub SOD : ℕ
SOD = 0xff93

-- packet lengths of a tile-part
abbrev pub PLT : ℕ
PLT = 0xff58

-- packed packet headers of a tile-part
abbrev pub PPT : ℕ
PPT = 0xff61

-- start of packet
abbrev pub SOP : ℕ
SOP = 0xff91

-- end of packet header
abbrev pub EPH : ℕ
EPH = 0xff92
