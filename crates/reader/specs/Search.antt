-- Where a file holds its codestream (docs/RULES.md, "Codestream search"; boxes: ISO/IEC 15444-1, annex I.4).
use Rattle.std.specs.Prelude.{ℕ, ◌+◌, ◌-◌, ◌^◌, min, Bool, cond, ◌&&◌, List, [], length, take, drop, leb, ltb, eqb, Result, Ok, Err}
use Rattle.numbers.specs.Bytes.{be}
use Rattle.types.specs.Markers.{SOC}
use Rattle.types.specs.Refusals.{refusal}
use Rattle.chain.specs.Chain.{Move, end, on, chain}
use Rattle.types.specs.declared.FileOffset.{FileOffset}
use Rattle.types.specs.declared.Refusal.{Refusal}
use Rattle.reader.specs.declared.search.Codestream.{Codestream}
use Rattle.reader.specs.declared.search.BoxHeader.{BoxHeader}
use Rattle.reader.specs.declared.search.NoBox.{NoBox}
use Rattle.reader.specs.declared.search.NoBox.TheVariants.{End, CutShort}
use Rattle.types.specs.declared.Reason.TheVariants.{FileTooShort, NotJpeg2000, BoxCutShort, NoCodestreamBox, CodestreamBoxTooShort, BoxTooLong}

-- the type of the box that holds the codestream, "jp2c"
abbrev pub JP2C : ℕ
JP2C = 0x6a70_3263

-- the signature box, 12 bytes
abbrev pub SIGNATURE : ℕ
SIGNATURE = 0x0000_000c_6a50_2020_0d0a_870a

-- ---- one box

-- the box at a position: its length in 4 bytes, its type in 4. Length 1: the length stands in 8 bytes more; 0: it reaches to the end.
unfoldable pub box_at : List ℕ → ℕ → Result BoxHeader NoBox
box_at s at =
    cond (leb (at + 8) (length s))
    (cond (eqb (be 4 s at) 1)
    (cond (leb (at + 16) (length s))
    (Ok (record { kind = be 4 s (at + 4); header = 16; length = be 8 s (at + 8) }))
    (Err CutShort))
    (Ok (record { kind = be 4 s (at + 4); header = 8; length = cond (eqb (be 4 s at) 0) (length s - at) (be 4 s at) })))
    (Err End)

-- a codestream that was found
abbrev pub codestream : FileOffset → ℕ → Codestream
codestream start size = record { start = start; length = size }

-- what a jp2c box holds, in a file of a size: no box that is shorter than its header, or ends past 2^64-1; clipped to the file
unfoldable pub content : ℕ → ℕ → BoxHeader → Result Codestream Refusal
content size at b =
    cond (leb b.header b.length)
    (cond (ltb (at + b.length) (2 ^ 64))
    (Ok (codestream (record { 0 = at + b.header }) (min (at + b.length) size - (at + b.header))))
    (Err (refusal BoxTooLong at)))
    (Err (refusal CodestreamBoxTooShort at))

-- past a box of another type: one that is shorter than its header stops the chain
unfoldable pub passed : ℕ → BoxHeader → Move (Result Codestream Refusal)
passed at b =
    cond (leb b.header b.length)
    (cond (ltb (at + b.length) (2 ^ 64)) (on (at + b.length)) (end (Err (refusal BoxTooLong at))))
    (end (Err (refusal NoCodestreamBox at)))

-- ---- the chain of boxes

-- a step, by the box that was read
unfoldable pub on_box : ℕ → ℕ → Result BoxHeader NoBox → Move (Result Codestream Refusal)
unfolding content passed
on_box size at (Ok b) = cond (eqb b.kind JP2C) (end (content size at b)) (passed at b)
on_box size at (Err End) = end (Err (refusal NoCodestreamBox at))
on_box size at (Err CutShort) = end (Err (refusal BoxCutShort at))

unfoldable pub move_at : List ℕ → ℕ → Move (Result Codestream Refusal)
unfolding box_at on_box
move_at s at = on_box (length s) at (box_at s at)

-- where the chain of boxes from a position on ends (the first argument of a chain is never its answer)
unfoldable pub found_from : List ℕ → ℕ → Result Codestream Refusal
found_from s at = (chain (Err (refusal NoCodestreamBox 0)) (move_at s) (length s) at).ended

-- ---- the file

unfoldable pub is_jp2 : List ℕ → Bool
is_jp2 s = leb 12 (length s) && eqb (be 12 s 0) SIGNATURE

-- a JP2 file's first jp2c box; or the whole file, where it starts as a codestream does
unfoldable pub found_in : List ℕ → Result Codestream Refusal
unfolding is_jp2 found_from
found_in s =
    cond (leb 2 (length s))
    (cond (is_jp2 s) (found_from s 0)
    (cond (eqb (be 2 s 0) SOC) (Ok (codestream (record { 0 = 0 }) (length s))) (Err (refusal NotJpeg2000 0))))
    (Err (refusal FileTooShort 0))

-- the part of the file that was found; where the search refuses, none
unfoldable pub part_of : List ℕ → Result Codestream Refusal → List ℕ
part_of s (Ok found) = take found.length (drop found.start.0 s)
part_of s (Err why) = []

unfoldable pub content_of : List ℕ → List ℕ
unfolding part_of found_in
content_of s = part_of s (found_in s)

-- what the code says of a box that it passes
abbrev pub move_of : Result ℕ Refusal → Move (Result Codestream Refusal)
move_of (Ok next) = on next
move_of (Err why) = end (Err why)
