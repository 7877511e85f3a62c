-- The editions of the main header (docs/RULES.md, "Editions"): the older passes over CAP as any segment; the newer, where all else accepts, wants one CAP
-- where it is announced and otherwise none, and holds its length to its bits. Said of the positions that the walk visits.
use Rattle.std.specs.Prelude.{ℕ, ◌+◌, ◌*◌, Bool, true, false, cond, ◌&&◌, List, [], ◌∷◌, leb, eqb, Result, Ok, Err}
use Rattle.numbers.specs.Bits.{bit, ones}
use Rattle.numbers.specs.Bytes.{be}
use Rattle.types.specs.Refusals.{refusal}
use Rattle.types.specs.Markers.{CAP}
use Rattle.chain.specs.Chain.{Visit}
use Rattle.header.specs.Walk.{walk_from}
use Rattle.header.specs.declared.edition.Edition.{Edition}
use Rattle.header.specs.declared.edition.Edition.TheVariants.{Older, Newer}
use Rattle.header.specs.declared.parse.MainHeaderInfo.{MainHeaderInfo}
use Rattle.types.specs.declared.Refusal.{Refusal}
use Rattle.types.specs.declared.Reason.TheVariants.{CapOutOfPlace, CapLengthWrong}

-- as C gives it: 0 is the older, 1 the newer, and any other number means the default, which is 0
unfoldable pub edition_of : ℕ → Edition
edition_of number = cond (eqb number 1) Newer Older

-- CAP is announced: bit 14 of the number at bytes 6 and 7, read there whatever Lsiz says
unfoldable pub announced : List ℕ → Bool
announced s = eqb (bit 14 (be 2 s 6)) 1

-- where CAP stands, in order
unfoldable pub caps_in : List ℕ → List Visit → List ℕ
caps_in s [] = []
caps_in s (v ∷ rest) = cond (eqb (be 2 s v.at) CAP) (v.at ∷ caps_in s rest) (caps_in s rest)

abbrev pub lcap : List ℕ → ℕ → ℕ
lcap s at = be 2 s (at + 2)

abbrev pub pcap : List ℕ → ℕ → ℕ
pcap s at = be 4 s (at + 4)

-- Lcap is not below 6, and is 6 and 2 for each of the ones of Pcap
unfoldable pub cap_fits : List ℕ → ℕ → Bool
cap_fits s at = leb 6 (lcap s at) && eqb (lcap s at) (6 + 2 * ones 32 (pcap s at))

-- a header with CAP at these positions, announced or not: 33 where it is missing, repeated or not wanted; then 34
unfoldable pub capped : Bool → List ℕ → List ℕ → MainHeaderInfo → Result MainHeaderInfo Refusal
capped true s [] h = Err (refusal CapOutOfPlace 2)
capped true s (at ∷ []) h = cond (cap_fits s at) (Ok h) (Err (refusal CapLengthWrong at))
capped true s (at ∷ again ∷ more) h = Err (refusal CapOutOfPlace again)
capped false s [] h = Ok h
capped false s (at ∷ more) h = Err (refusal CapOutOfPlace at)

-- what an edition makes of an answer
unfoldable pub in_edition : Edition → List ℕ → Result MainHeaderInfo Refusal → Result MainHeaderInfo Refusal
unfolding announced caps_in capped
in_edition Older s answer = answer
in_edition Newer s (Ok h) = capped (announced s) s (caps_in s (walk_from s 2).visits) h
in_edition Newer s (Err r) = Err r
