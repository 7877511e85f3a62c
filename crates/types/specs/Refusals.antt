-- A refusal (docs/RULES.md, "Refusals"): why, and its place; the number of each reason; and an answer for C.
use Rattle.std.specs.Prelude.{ℕ, Result, Ok, Err}
use Rattle.types.specs.declared.Reason.{Reason}
use Rattle.types.specs.declared.Reason.TheVariants.{NoSoc, NoSiz, SegmentPastEnd, TlmTooShort, TlmFormUnknown, NoTilePart, TilePartCutShort, SotLengthWrong, TilePartPastEnd, TileOutside, FileTooShort, NotJpeg2000, BoxCutShort, NoCodestreamBox, CodestreamBoxTooShort, BoxTooLong, OutputTooSmall, TableTooSmall, HeaderTooLong, SizCutShort, SizNotFound, ImageEndsBeforeItStarts, ListingTooLong, ComponentsNotHeld, SubsamplingOf0, TlmTooManyEntries, BoxDoesNotFit, BoxLengthWrong, BoxesTooDeep, NoGrid, NoSuchTile, TlmNumberRepeated, CapOutOfPlace, CapLengthWrong}
use Rattle.types.specs.declared.Refusal.{Refusal}

abbrev pub refusal : Reason → ℕ → Refusal
refusal reason place = record { reason = reason; place = place }

abbrev pub number_of : Reason → ℕ
number_of NoSoc = 1
number_of NoSiz = 2
number_of SegmentPastEnd = 3
number_of TlmTooShort = 4
number_of TlmFormUnknown = 5
number_of NoTilePart = 6
number_of TilePartCutShort = 7
number_of SotLengthWrong = 8
number_of TilePartPastEnd = 9
number_of TileOutside = 10
number_of FileTooShort = 11
number_of NotJpeg2000 = 12
number_of BoxCutShort = 13
number_of NoCodestreamBox = 14
number_of CodestreamBoxTooShort = 15
number_of BoxTooLong = 16
number_of OutputTooSmall = 17
number_of TableTooSmall = 18
number_of HeaderTooLong = 19
number_of SizCutShort = 20
number_of SizNotFound = 21
number_of ImageEndsBeforeItStarts = 22
number_of ListingTooLong = 23
number_of ComponentsNotHeld = 24
number_of SubsamplingOf0 = 25
number_of TlmTooManyEntries = 26
number_of BoxDoesNotFit = 27
number_of BoxLengthWrong = 28
number_of BoxesTooDeep = 29
number_of NoGrid = 30
number_of NoSuchTile = 31
number_of TlmNumberRepeated = 32
number_of CapOutOfPlace = 33
number_of CapLengthWrong = 34

abbrev pub refusal_number : Refusal → ℕ
refusal_number r = number_of r.reason

-- an answer's number, 0 where it accepts and else the refusal's, and its value: what it gives, or the refusal's place
abbrev pub answer_number : {A : Type 0} → Result A Refusal → ℕ
answer_number (Ok a) = 0
answer_number (Err r) = refusal_number r

abbrev pub answer_value : Result ℕ Refusal → ℕ
answer_value (Ok n) = n
answer_value (Err r) = r.place
