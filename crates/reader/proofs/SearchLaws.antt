-- The codestream search's definitions, opened once: a law for each case, that its step goes forward, that what is found lies in the file,
-- and the answer by what the step finds.
use Prim.Native.Nat.{ℕ, ◌+◌, ◌-◌, ◌^◌, ◌≤◌, ◌<◌, min}
use native.Mathlib.Omega.{arith}
use mathlib.Core.Path.{◌≡◌, refl, ap, ◌∙◌}
use mathlib.Core.Bool.{Bool, true, false}
use mathlib.Core.List.{List, []}
use lib.ListN.{length, get_or, take, drop}
use lib.Dec.{leb, ltb, eqb}
use borrow.Author.Tests.{le-leb, lt-leb, lt-ltb, le-ltb, eq-eqb, ne_eqb, leb-true, eqb-true, eqb-false}
use Rattle.numbers.specs.Bytes.{be}
use Rattle.numbers.proofs.BytesLaws.{be_join, be_bound}
use Rattle.types.specs.Markers.{SOC}
use Rattle.types.specs.Refusals.{refusal}
use Rattle.types.specs.declared.Refusal.{Refusal}
use Rattle.chain.specs.Chain.{Move, end, on, Rises}
use Rattle.numbers.proofs.Choice.{by_test}
use Rattle.reader.proofs.Moves.{Told, told_on, ended_end, ended_on, ended_told}
use Rattle.reader.specs.Search.{JP2C, SIGNATURE, box_at, codestream, content, passed, on_box, move_at, found_from, is_jp2, found_in, part_of, content_of}
use Rattle.std.specs.Prelude.{Result, Ok, Err}
use Rattle.reader.specs.declared.search.Codestream.{Codestream}
use Rattle.reader.specs.declared.search.BoxHeader.{BoxHeader}
use Rattle.reader.specs.declared.search.NoBox.{NoBox}
use Rattle.reader.specs.declared.search.NoBox.TheVariants.{End, CutShort}
use Rattle.types.specs.declared.Reason.TheVariants.{FileTooShort, NotJpeg2000, BoxCutShort, NoCodestreamBox, CodestreamBoxTooShort, BoxTooLong}

-- ---- one box

module _ (s : List ℕ) (at : ℕ) where
  pub box_end : length s < at + 8 → box_at s at ≡ Err End
  unfolding box_at
  box_end h = rw (lt-leb _ _ h)

  module _ (front : at + 8 ≤ length s) where
    pub box_cut : be 4 s at ≡ 1 → length s < at + 16 → box_at s at ≡ Err CutShort
    unfolding box_at
    box_cut e h = rw (le-leb _ _ front, eq-eqb _ _ e, lt-leb _ _ h)

    pub box_extended : be 4 s at ≡ 1 → at + 16 ≤ length s
        → box_at s at ≡ Ok (record { kind = be 4 s (at + 4); header = 16; length = be 8 s (at + 8) })
    unfolding box_at
    box_extended e h = rw (le-leb _ _ front, eq-eqb _ _ e, le-leb _ _ h)

    pub box_to_end : be 4 s at ≡ 0 → box_at s at ≡ Ok (record { kind = be 4 s (at + 4); header = 8; length = length s - at })
    unfolding box_at
    box_to_end e = rw (le-leb _ _ front, ne_eqb (be 4 s at) 1 (λ o. omega arith), eq-eqb _ _ e)

    pub box_plain : (be 4 s at ≡ 1 → ⊥) → (be 4 s at ≡ 0 → ⊥)
        → box_at s at ≡ Ok (record { kind = be 4 s (at + 4); header = 8; length = be 4 s at })
    unfolding box_at
    box_plain o z = rw (le-leb _ _ front, ne_eqb _ _ o, ne_eqb _ _ z)

-- a box that was read: its header is at least 8 bytes long, and lies in the file
abbrev pub BoxTold : List ℕ → ℕ → Result BoxHeader NoBox → Type 0
BoxTold s at (Ok b) = (8 ≤ b.header) × (at + b.header ≤ length s)
BoxTold s at (Err why) = Unit {0}

pub box_told : (s : List ℕ) (at : ℕ) → BoxTold s at (box_at s at)
unfolding box_at
box_told s at =
    by_test (BoxTold s at) (leb (at + 8) (length s))
    (λ m. by_test (BoxTold s at) (eqb (be 4 s at) 1)
    (λ _. by_test (BoxTold s at) (leb (at + 16) (length s)) (λ h. (omega arith, leb-true _ _ h)) (λ _. tt))
    (λ _. (omega arith, leb-true _ _ m)))
    (λ _. tt)

-- ---- what a box holds, and past it

module _ (at : ℕ) (b : BoxHeader) where
  pub passed_14 : b.length < b.header → passed at b ≡ end (Err (refusal NoCodestreamBox at))
  unfolding passed
  passed_14 h = rw (lt-leb _ _ h)

  pub passed_16 : b.header ≤ b.length → 2 ^ 64 ≤ at + b.length → passed at b ≡ end (Err (refusal BoxTooLong at))
  unfolding passed
  passed_16 h e = rw (le-leb _ _ h, le-ltb (at + b.length) (2 ^ 64) e)

  pub passed_on : b.header ≤ b.length → at + b.length < 2 ^ 64 → passed at b ≡ on (at + b.length)
  unfolding passed
  passed_on h e = rw (le-leb _ _ h, lt-ltb (at + b.length) (2 ^ 64) e)

  module _ (size : ℕ) where
    pub content_15 : b.length < b.header → content size at b ≡ Err (refusal CodestreamBoxTooShort at)
    unfolding content
    content_15 h = rw (lt-leb _ _ h)

    pub content_16 : b.header ≤ b.length → 2 ^ 64 ≤ at + b.length → content size at b ≡ Err (refusal BoxTooLong at)
    unfolding content
    content_16 h e = rw (le-leb _ _ h, le-ltb (at + b.length) (2 ^ 64) e)

    pub content_part : b.header ≤ b.length → at + b.length < 2 ^ 64
        → content size at b ≡ Ok (codestream (record { 0 = at + b.header }) (min (at + b.length) size - (at + b.header)))
    unfolding content
    content_part h e = rw (le-leb _ _ h, lt-ltb (at + b.length) (2 ^ 64) e)

-- ---- a step

module _ (s : List ℕ) (at : ℕ) where
  pub move_end : box_at s at ≡ Err End → move_at s at ≡ end (Err (refusal NoCodestreamBox at))
  unfolding move_at on_box
  move_end e = ap (on_box (length s) at) e

  pub move_cut : box_at s at ≡ Err CutShort → move_at s at ≡ end (Err (refusal BoxCutShort at))
  unfolding move_at on_box
  move_cut e = ap (on_box (length s) at) e

  module _ (b : BoxHeader) (e : box_at s at ≡ Ok b) where
    pub move_jp2c : b.kind ≡ JP2C → move_at s at ≡ end (content (length s) at b)
    unfolding move_at on_box
    move_jp2c k = ap (on_box (length s) at) e ∙ rw (eq-eqb _ _ k)

    pub move_past : (b.kind ≡ JP2C → ⊥) → move_at s at ≡ passed at b
    unfolding move_at on_box
    move_past k = ap (on_box (length s) at) e ∙ rw (ne_eqb _ _ k)

-- what was found lies in a file of a size
abbrev pub Inside : ℕ → Result Codestream Refusal → Type 0
Inside size (Ok found) = found.start.0 + found.length ≤ size
Inside size (Err why) = Unit {0}

box_move : (s : List ℕ) (at : ℕ) (read : Result BoxHeader NoBox) → BoxTold s at read
    → Told (Inside (length s)) (λ next. (at < next) × (at < length s)) (on_box (length s) at read)
unfolding on_box content passed Told
box_move s at (Err End) t = tt
box_move s at (Err CutShort) t = tt
box_move s at (Ok b) t =
    let P : Move (Result Codestream Refusal) → Type 0 = Told (Inside (length s)) (λ next. (at < next) × (at < length s)) in
    by_test P (eqb b.kind JP2C)
    (λ _. by_test (Inside (length s)) (leb b.header b.length)
    (λ m. let h : b.header ≤ b.length = leb-true _ _ m in
    by_test (Inside (length s)) (ltb (at + b.length) (2 ^ 64)) (λ _. omega arith) (λ _. tt))
    (λ _. tt))
    (λ _. by_test P (leb b.header b.length)
    (λ m. let h : b.header ≤ b.length = leb-true _ _ m in
    by_test P (ltb (at + b.length) (2 ^ 64)) (λ _. (omega arith, omega arith)) (λ _. tt))
    (λ _. tt))

move_told : (s : List ℕ) (at : ℕ) → Told (Inside (length s)) (λ next. (at < next) × (at < length s)) (move_at s at)
unfolding move_at
move_told s at = box_move s at (box_at s at) (box_told s at)

pub rises : (s : List ℕ) → Rises (move_at s) (length s)
rises s at next e = told_on _ _ (move_at s at) (move_told s at) next e

-- ---- the answer from a position on, by what the step finds

pub found_end : (s : List ℕ) (at : ℕ) (found : Result Codestream Refusal) → move_at s at ≡ end found → found_from s at ≡ found
unfolding found_from
found_end s = ended_end _ (move_at s) (length s) (rises s)

pub found_on : (s : List ℕ) (at next : ℕ) → move_at s at ≡ on next → found_from s at ≡ found_from s next
unfolding found_from
found_on s = ended_on _ (move_at s) (length s) (rises s)

-- ---- the file

module _ (s : List ℕ) where
  pub jp2_short : length s < 12 → is_jp2 s ≡ false
  unfolding is_jp2
  jp2_short h = rw (lt-leb _ _ h)

  module _ (whole : 12 ≤ length s) (bytes : (i : ℕ) → get_or s i 0 < 256) where
    pub jp2_other : (be 8 s 0 ≡ 0x0000_000c_6a50_2020 → ⊥) → is_jp2 s ≡ false
    unfolding is_jp2
    jp2_other o = rw (le-leb _ _ whole, ne_eqb (be 12 s 0) SIGNATURE (λ e. o (omega (arith, be_join 8 4 s 0, be_bound 4 s 8 bytes))))

    jp2_by : (t : Bool) → eqb (be 4 s 8) 0x0d0a_870a ≡ t → be 8 s 0 ≡ 0x0000_000c_6a50_2020 → is_jp2 s ≡ t
    unfolding is_jp2
    jp2_by true e f = rw (le-leb _ _ whole, eq-eqb (be 12 s 0) SIGNATURE (omega (arith, be_join 8 4 s 0, eqb-true (be 4 s 8) 0x0d0a_870a e)))
    jp2_by false e f = rw (le-leb _ _ whole, ne_eqb (be 12 s 0) SIGNATURE (λ h. eqb-false (be 4 s 8) 0x0d0a_870a e (omega (arith, be_join 8 4 s 0, be_bound 4 s 8 bytes))))

    pub jp2_last : be 8 s 0 ≡ 0x0000_000c_6a50_2020 → is_jp2 s ≡ eqb (be 4 s 8) 0x0d0a_870a
    jp2_last f = jp2_by _ refl f

  pub found_few : length s < 2 → found_in s ≡ Err (refusal FileTooShort 0)
  unfolding found_in
  found_few h = rw (lt-leb _ _ h)

  module _ (two : 2 ≤ length s) where
    pub found_jp2 : is_jp2 s ≡ true → found_in s ≡ found_from s 0
    unfolding found_in
    found_jp2 j = rw (le-leb _ _ two, j)

    pub found_neither : is_jp2 s ≡ false → (be 2 s 0 ≡ SOC → ⊥) → found_in s ≡ Err (refusal NotJpeg2000 0)
    unfolding found_in
    found_neither j e = rw (le-leb _ _ two, j, ne_eqb _ _ e)

    pub found_whole : is_jp2 s ≡ false → be 2 s 0 ≡ SOC → found_in s ≡ Ok (codestream (record { 0 = 0 }) (length s))
    unfolding found_in
    found_whole j e = rw (le-leb _ _ two, j, eq-eqb _ _ e)

  from_inside : (at : ℕ) → Inside (length s) (found_from s at)
  unfolding found_from
  from_inside at = ended_told _ (move_at s) (length s) (rises s) _ _ (move_told s) at

  pub found_inside : Inside (length s) (found_in s)
  unfolding found_in
  found_inside =
      by_test (Inside (length s)) (leb 2 (length s))
      (λ _. by_test (Inside (length s)) (is_jp2 s) (λ _. from_inside 0)
      (λ _. by_test (Inside (length s)) (eqb (be 2 s 0) SOC) (λ _. omega arith) (λ _. tt)))
      (λ _. tt)

  pub inside_at : (found : Codestream) → found_in s ≡ Ok found → found.start.0 + found.length ≤ length s
  inside_at found e = rw e at found_inside

  pub content_found : (found : Codestream) → found_in s ≡ Ok found → content_of s ≡ take found.length (drop found.start.0 s)
  unfolding content_of part_of
  content_found found e = ap (part_of s) e

  pub content_none : (why : Refusal) → found_in s ≡ Err why → content_of s ≡ []
  unfolding content_of part_of
  content_none why e = ap (part_of s) e
