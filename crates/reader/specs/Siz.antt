-- The image's size and its samples, from the first SIZ that is met (docs/RULES.md, "SIZ reading").
use Rattle.std.specs.Prelude.{ℕ, ◌+◌, ◌-◌, ◌%◌, Bool, cond, ◌&&◌, List, length, get_or, leb, eqb, Option, Some, None, Result, Ok, Err}
use Rattle.numbers.specs.Bytes.{be}
use Rattle.types.specs.Markers.{SIZ}
use Rattle.types.specs.Siz.{xsiz, ysiz, xosiz, yosiz, csiz, ssiz}
use Rattle.types.specs.Refusals.{refusal}
use Rattle.chain.specs.Chain.{Move, end, on, chain}
use Rattle.reader.specs.declared.siz.SizInfo.{SizInfo}
use Rattle.reader.specs.declared.siz.SampleType.{SampleType}
use Rattle.reader.specs.declared.siz.SampleType.TheVariants.{UInt8, Int8, UInt16, Int16, UInt32, Int32}
use Rattle.types.specs.declared.Refusal.{Refusal}
use Rattle.types.specs.declared.Reason.TheVariants.{SizCutShort, SizNotFound, ImageEndsBeforeItStarts}

-- the fields of SIZ that are asked for
unfoldable pub info_at : List ℕ → ℕ → SizInfo
info_at s at =
    record {
      width = xsiz s at - xosiz s at;
      height = ysiz s at - yosiz s at;
      num_components = csiz s at;
      bits_per_component = ssiz s at % 128 + 1;
      is_signed = leb 128 (ssiz s at);
    }

-- the SIZ at a position: 41 bytes, and neither origin past the image's far side
unfoldable pub siz_at : List ℕ → ℕ → Result SizInfo Refusal
unfolding info_at
siz_at s at =
    cond (leb (at + 41) (length s))
    (cond (leb (xosiz s at) (xsiz s at))
    (cond (leb (yosiz s at) (ysiz s at)) (Ok (info_at s at)) (Err (refusal ImageEndsBeforeItStarts at)))
    (Err (refusal ImageEndsBeforeItStarts at)))
    (Err (refusal SizCutShort at))

-- a step: FF51 is read; any other FF skips its marker and its length; any other byte is skipped; too few bytes end it
unfoldable pub move_at : List ℕ → ℕ → Move (Result SizInfo Refusal)
unfolding siz_at
move_at s at =
    cond (leb (at + 2) (length s))
    (cond (eqb (be 2 s at) SIZ) (end (siz_at s at))
    (cond (eqb (get_or s at 0) 0xff)
    (cond (leb (at + 4) (length s)) (on (at + (2 + be 2 s (at + 2)))) (end (Err (refusal SizNotFound at))))
    (on (at + 1))))
    (end (Err (refusal SizNotFound at)))

-- where the search from a position on ends (the first argument of a chain is never its answer)
unfoldable pub siz_from : List ℕ → ℕ → Result SizInfo Refusal
siz_from s at = (chain (Err (refusal SizNotFound 2)) (move_at s) (length s) at).ended

-- the search from 2 on, past SOC, which is not looked at
unfoldable pub siz_read : List ℕ → Result SizInfo Refusal
unfolding siz_from
siz_read s = siz_from s 2

-- what the code's step says: none, where SIZ stands
abbrev pub move_of : List ℕ → ℕ → Result (Option ℕ) Refusal → Move (Result SizInfo Refusal)
move_of s at (Ok (Some next)) = on next
move_of s at (Ok None) = end (siz_at s at)
move_of s at (Err why) = end (Err why)

-- ---- how samples are held

-- a type by its width, 8, 16 or 32 bits, with a sign or without
unfoldable pub between : ℕ → ℕ → ℕ → Bool
between low high n = leb low n && leb n high

unfoldable pub sample_type : ℕ → Bool → SampleType
unfolding between
sample_type bits signed =
    cond (between 1 8 bits) (cond signed Int8 UInt8)
    (cond (between 9 16 bits) (cond signed Int16 UInt16)
    (cond (between 17 32 bits) (cond signed Int32 UInt32) UInt8))

-- each case's number
unfoldable pub sample_number : SampleType → ℕ
sample_number UInt8 = 0
sample_number Int8 = 1
sample_number UInt16 = 2
sample_number Int16 = 3
sample_number UInt32 = 4
sample_number Int32 = 5
