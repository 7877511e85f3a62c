-- One step over the main header (docs/RULES.md, "Header walk"), and the chain of its steps.
use Rattle.std.specs.Prelude.{ℕ, ◌+◌, ◌/◌, ◌%◌, Bool, cond, not, ◌||◌, ◌&&◌, List, length, leb, eqb}
use Rattle.numbers.specs.Bytes.{be}
use Rattle.chain.specs.Chain.{Move, end, on, Chain, chain}
use Rattle.types.specs.Markers.{SOT}
use Rattle.header.specs.declared.step.Marker.{Marker}
use Rattle.header.specs.declared.step.HeaderStep.{HeaderStep}
use Rattle.header.specs.declared.step.HeaderStep.TheVariants.{Sot, Delimiter, Segment, CutShort}

-- a delimiter: a low byte of 92 or 30 to 3F, with any high byte
unfoldable pub delimits : ℕ → Bool
delimits marker = eqb (marker % 256) 0x92 || (leb 0x30 (marker % 256) && leb (marker % 256) 0x3f)

-- its high byte is FF
unfoldable pub high_ff : ℕ → Bool
high_ff marker = eqb (marker / 256) 0xff

-- filler: a delimiter whose high byte is not FF
unfoldable pub is_filler : ℕ → Bool
unfolding delimits high_ff
is_filler marker = delimits marker && not (high_ff marker)

-- where a segment ends: its marker, and as many bytes as its length field says, 0 and 1 included
unfoldable pub segment_end : List ℕ → ℕ → ℕ
segment_end s at = at + (2 + be 2 s (at + 2))

-- what a step says of a marker that it passes: its code, whether its high byte is FF, and where the step goes on
abbrev pub passing : ℕ → ℕ → Marker
passing code next = record { code = code; high_ff = high_ff code; next = next }

-- what stands at a position: SOT, a delimiter, a segment, or bytes that end too soon
unfoldable pub step_at : List ℕ → ℕ → HeaderStep
unfolding delimits high_ff segment_end
step_at s at =
    cond (leb (at + 2) (length s))
    (cond (eqb (be 2 s at) SOT) Sot
    (cond (delimits (be 2 s at)) (Delimiter (passing (be 2 s at) (at + 2)))
    (cond (leb (at + 4) (length s))
    (cond (leb (segment_end s at) (length s)) (Segment (passing (be 2 s at) (segment_end s at))) CutShort)
    CutShort)))
    CutShort

-- how the steps end: at an SOT, or where the bytes end too soon
pub data HeaderEnd : Type 0 where
  sot : HeaderEnd
  cut : HeaderEnd

-- a segment and a delimiter are passed
unfoldable pub move_of : HeaderStep → Move HeaderEnd
move_of Sot = end sot
move_of (Delimiter m) = on m.next
move_of (Segment m) = on m.next
move_of CutShort = end cut

unfoldable pub move_at : List ℕ → ℕ → Move HeaderEnd
move_at s at = move_of (step_at s at)

-- the steps from a position on
unfoldable pub steps_from : List ℕ → ℕ → Chain HeaderEnd
steps_from s at = chain cut (move_at s) (length s) at
