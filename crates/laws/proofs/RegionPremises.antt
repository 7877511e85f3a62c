-- The premises of how much header is enough. They hold of sample A, and of a header that needs a second region; and each is needed: a byte fewer than
-- enough is refused; past 2^32-1 bytes the whole is refused and its region is not; and with items that are no bytes an SOT may overlap Rsiz.
use Prim.Native.Nat.{ℕ, ◌+◌, ◌≤◌, ◌<◌, min}
use native.Mathlib.Omega.{arith}
use mathlib.Core.Path.{◌≡◌, refl, sym, ap, ◌∙◌}
use mathlib.Core.Bool.{cond}
use mathlib.Core.List.{List, [], ◌∷◌, ◌++◌}
use lib.ListN.{length, take, length-append, length-take}
use lib.Seq.{take-append-add}
use lib.Dec.{leb}
use Rattle.std.specs.Prelude.{Some, None, Result, Ok, Err}
use Rattle.types.specs.Refusals.{refusal}
use Rattle.header.specs.Extent.{extent_of, enough_of, enough}
use Rattle.header.specs.Reading.{older_by, newer_by, by_default}
use Rattle.header.specs.Parse.{judged_as}
use Rattle.header.specs.declared.numbering.Numbering.TheVariants.{CarriedOn, Restarting}
use Rattle.header.specs.declared.reading.Reading.{Reading}
use Rattle.header.proofs.NumberingLaws.{by_refused}
use Rattle.header.proofs.EditionLaws.{as_refused, as_older}
use Rattle.header.proofs.ParseLaws.{front_long}
use Rattle.header.proofs.IsoMain.{up_to_sot}
use Rattle.header.proofs.ExtentPrefix.{complete_reached, extent_more}
use Rattle.header.proofs.ParsePrefix.{as_prefix}
use Rattle.header.proofs.Enough.{accepted_complete}
use Rattle.reader.specs.Growth.{grown}
use Rattle.laws.specs.Sample.{A}
use Rattle.laws.proofs.SampleComputing.{extents, editions}
use Rattle.laws.proofs.SampleEdges.{A-length, header_58, header_59, sot_65534, sot_65535}
use Rattle.laws.proofs.SampleNumbering.{three, restarting}
use Rattle.laws.proofs.SampleStandard.{siz}
use Rattle.laws.proofs.Region.{prefix_extent, enough_accepted}
use Rattle.header.specs.declared.parse.MainHeaderInfo.{MainHeaderInfo}
use Rattle.types.specs.declared.Refusal.{Refusal}
use Rattle.types.specs.declared.Reason.TheVariants.{NoSiz, NoTilePart, HeaderTooLong, CapOutOfPlace}

abbrev accepted : ℕ → ℕ → ℕ → Result MainHeaderInfo Refusal
accepted first long entries =
    Ok (record { first_sot_offset = record { 0 = first }; decode_header_length = long; tlm_entries = entries; fillers = 0 })

-- ---- they hold of A: 59 bytes are enough

A-read : judged_as by_default A ≡ accepted 57 45 2
unfolding editions
A-read = refl

A-extent : extent_of A ≡ Some (record { 0 = 57 })
A-extent = accepted_complete by_default A _ A-read

pub A-enough : enough A ≡ 59
A-enough = enough_accepted by_default A _ A-read

pub A-prefixes : (n : ℕ) → extent_of (take n A) ≡ cond (leb 59 n) (Some (record { 0 = 57 })) None
A-prefixes n = prefix_extent by_default A _ A-read n

-- with one fewer the walk refuses
pub enough_needed : (judged_as by_default (take 58 A) ≡ Err (refusal NoTilePart 58)) × (judged_as by_default (take 59 A) ≡ judged_as by_default A)
enough_needed = (header_58, header_59 ∙ sym A-read)

-- ---- and of a header that is refused: SOC, and SOT where SIZ should be

pub refused_told : (extent_of (0xff ∷ 0x4f ∷ 0xff ∷ 0x90 ∷ []) ≡ Some (record { 0 = 2 })) × (judged_as by_default (0xff ∷ 0x4f ∷ 0xff ∷ 0x90 ∷ []) ≡ Err (refusal NoSiz 2))
unfolding extents editions
refused_told = (refl, refl)

-- ---- and of one whose first SOT stands at 65,535: three TLM segments, with 16,367, 16,367 and 2 entries. Whatever follows, growth takes the second region

pub second_region : (t : List ℕ)
    → grown (up_to_sot siz (three 16367 2) [] ++ t) ≡ record { region = min 131072 (length (up_to_sot siz (three 16367 2) [] ++ t)); enlargements = 1 }
second_region t =
    let s : List ℕ = up_to_sot siz (three 16367 2) [] in
    let read = as_older (older_by Restarting) s refl ∙ restarting 16367 2 (omega arith) (omega arith) in
    sot_65535 (s ++ t) (extent_more s t _ (accepted_complete (older_by Restarting) s _ read))

-- ---- past 2^32-1 bytes: A with that many behind it is refused whole, however it is read; growth takes 65,536 bytes, which are accepted

module _ (t : List ℕ) (long : 0xffff_ffff < length (A ++ t)) where
  pub long_refused : (how : Reading) → judged_as how (A ++ t) ≡ Err (refusal HeaderTooLong 0)
  long_refused how = as_refused how (A ++ t) _ (by_refused how.numbering (A ++ t) _ (front_long (A ++ t) long))

  pub long_region : grown (A ++ t) ≡ record { region = 65536; enlargements = 0 }
  long_region =
      let first : min 65536 (length (A ++ t)) ≡ 65536 = omega arith in
      sot_65534 (A ++ t) (record { 0 = 57 }) (extent_more A t _ A-extent) (omega arith) ∙ (λ i. record { region = first i; enlargements = 0 })

  pub long_read : judged_as by_default (take 65536 (A ++ t)) ≡ accepted 57 45 2
  long_read =
      let rest : List ℕ = take 65447 t in
      let few : length (A ++ rest) ≤ 0xffff_ffff = omega (arith, length-append A rest, length-take 65447 t, A-length) in
      ap (judged_as by_default) (ap (λ (n : ℕ). take n (A ++ t)) (ap (λ (n : ℕ). n + 65447) (sym A-length)) ∙ take-append-add A t 65447)
      ∙ as_prefix A rest (complete_reached A _ A-extent) few (λ _ _ _. omega (arith, A-length)) by_default
      ∙ A-read

-- ---- items that are no bytes: SIZ of length 1, and an SOT that begins in that length. 7 items are enough, and Rsiz is the last of these and one more

abbrev no_bytes : List ℕ
no_bytes = 0xff ∷ 0x4f ∷ 0xff ∷ 0x51 ∷ 0 ∷ 1 ∷ 0xfe90 ∷ 0x4000 ∷ []

pub bytes_needed : (enough no_bytes ≡ 7) × ((judged_as (newer_by CarriedOn) (take 7 no_bytes) ≡ accepted 5 5 0) × (judged_as (newer_by CarriedOn) no_bytes ≡ Err (refusal CapOutOfPlace 2)))
unfolding enough enough_of extents editions
bytes_needed = (refl, (refl, refl))
