-- The SIZ reading's definitions, opened once: a law for each case, that its step goes forward, and the answer by what the step finds.
use Prim.Native.Nat.{ℕ, ◌+◌, ◌-◌, ◌*◌, ◌%◌, ◌≤◌, ◌<◌}
use native.Mathlib.Nat.{add-zero}
use native.Mathlib.Omega.{arith}
use mathlib.Core.Path.{◌≡◌, ap}
use mathlib.Core.Bool.{Bool, cond}
use mathlib.Core.List.{List}
use lib.ListN.{length, get_or}
use lib.Dec.{leb, eqb}
use borrow.Author.Tests.{le-leb, lt-leb, eq-eqb, ne_eqb, leb-true}
use Rattle.std.specs.Prelude.{Result, Ok, Err}
use Rattle.numbers.specs.Bytes.{be}
use Rattle.types.specs.Markers.{SIZ}
use Rattle.types.specs.Siz.{xsiz, ysiz, xosiz, yosiz, csiz, ssiz}
use Rattle.types.specs.Refusals.{refusal}
use Rattle.chain.specs.Chain.{Move, end, on, Rises}
use Rattle.numbers.proofs.Choice.{by_test}
use Rattle.reader.proofs.Moves.{Told, told_on, ended_end, ended_on}
use Rattle.reader.specs.Siz.{info_at, siz_at, move_at, siz_from, between, sample_type}
use Rattle.reader.specs.declared.siz.SampleType.TheVariants.{UInt8, Int8, UInt16, Int16, UInt32, Int32}
use Rattle.reader.specs.declared.siz.SizInfo.{SizInfo}
use Rattle.types.specs.declared.Refusal.{Refusal}
use Rattle.types.specs.declared.Reason.TheVariants.{SizCutShort, SizNotFound, ImageEndsBeforeItStarts}

module _ (s : List ℕ) (at : ℕ) where
  -- ---- the SIZ at a position

  pub siz_short : length s < at + 41 → siz_at s at ≡ Err (refusal SizCutShort at)
  unfolding siz_at
  siz_short h = rw (lt-leb _ _ h)

  module _ (whole : at + 41 ≤ length s) where
    pub siz_left : xsiz s at < xosiz s at → siz_at s at ≡ Err (refusal ImageEndsBeforeItStarts at)
    unfolding siz_at
    siz_left x = rw (le-leb _ _ whole, lt-leb _ _ x)

    module _ (x : xosiz s at ≤ xsiz s at) where
      pub siz_above : ysiz s at < yosiz s at → siz_at s at ≡ Err (refusal ImageEndsBeforeItStarts at)
      unfolding siz_at
      siz_above y = rw (le-leb _ _ whole, le-leb _ _ x, lt-leb _ _ y)

      pub siz_info : yosiz s at ≤ ysiz s at → siz_at s at ≡ Ok (info_at s at)
      unfolding siz_at
      siz_info y = rw (le-leb _ _ whole, le-leb _ _ x, le-leb _ _ y)

  -- the fields, each read by itself
  pub info_of_lem : {x y xo yo n : ℕ} → x ≡ xsiz s at → y ≡ ysiz s at → xo ≡ xosiz s at → yo ≡ yosiz s at → n ≡ csiz s at
      → ◌≡◌ {A = Result SizInfo Refusal}
      (Ok
      (record {
        width = x - xo;
        height = y - yo;
        num_components = n;
        bits_per_component = ssiz s at % 128 + 1;
        is_signed = leb 128 (ssiz s at);
      }))
      (Ok (info_at s at))
  unfolding info_at
  info_of_lem x y xo yo n = λ i. Ok (record { width = x i - xo i; height = y i - yo i; num_components = n i; bits_per_component = ssiz s at % 128 + 1; is_signed = leb 128 (ssiz s at) })

  -- ---- a step

  -- SIZ begins with FF
  pub not_siz : ((i : ℕ) → get_or s i 0 < 256) → (get_or s at 0 ≡ 0xff → ⊥) → be 2 s at ≡ SIZ → ⊥
  unfolding be
  not_siz bytes b e =
      let both : (0 * 256 + get_or s (at + 0) 0) * 256 + get_or s (at + 1) 0 ≡ SIZ = e in
      let first : get_or s (at + 0) 0 ≡ get_or s at 0 = ap (λ (n : ℕ). get_or s n 0) (add-zero at) in
      b (omega (arith, both, first, bytes (at + 1)))

  pub move_few : length s < at + 2 → move_at s at ≡ end (Err (refusal SizNotFound at))
  unfolding move_at
  move_few h = rw (lt-leb _ _ h)

  module _ (two : at + 2 ≤ length s) where
    pub move_siz : be 2 s at ≡ SIZ → move_at s at ≡ end (siz_at s at)
    unfolding move_at
    move_siz e = rw (le-leb _ _ two, eq-eqb _ _ e)

    module _ (other : be 2 s at ≡ SIZ → ⊥) where
      pub move_byte : (get_or s at 0 ≡ 0xff → ⊥) → move_at s at ≡ on (at + 1)
      unfolding move_at
      move_byte b = rw (le-leb _ _ two, ne_eqb _ _ other, ne_eqb _ _ b)

      pub move_no_length : get_or s at 0 ≡ 0xff → length s < at + 4 → move_at s at ≡ end (Err (refusal SizNotFound at))
      unfolding move_at
      move_no_length b h = rw (le-leb _ _ two, ne_eqb _ _ other, eq-eqb _ _ b, lt-leb _ _ h)

      pub move_segment : get_or s at 0 ≡ 0xff → at + 4 ≤ length s → move_at s at ≡ on (at + (2 + be 2 s (at + 2)))
      unfolding move_at
      move_segment b h = rw (le-leb _ _ two, ne_eqb _ _ other, eq-eqb _ _ b, le-leb _ _ h)

-- ---- a step that goes on goes forward, from inside the bytes

move_told : (s : List ℕ) (at : ℕ) → Told (λ _. Unit {0}) (λ next. (at < next) × (at < length s)) (move_at s at)
unfolding move_at Told
move_told s at =
    let P : Move (Result SizInfo Refusal) → Type 0 = Told (λ _. Unit {0}) (λ next. (at < next) × (at < length s)) in
    by_test P (leb (at + 2) (length s))
    (λ m. let h : at + 2 ≤ length s = leb-true _ _ m in
    by_test P (eqb (be 2 s at) SIZ) (λ _. tt)
    (λ _. by_test P (eqb (get_or s at 0) 0xff)
    (λ _. by_test P (leb (at + 4) (length s)) (λ _. (omega arith, omega arith)) (λ _. tt))
    (λ _. (omega arith, omega arith))))
    (λ _. tt)

pub rises : (s : List ℕ) → Rises (move_at s) (length s)
rises s at next e = told_on _ _ (move_at s at) (move_told s at) next e

-- ---- the answer from a position on, by what the step finds

pub read_end_lem : (s : List ℕ) (at : ℕ) (read : Result SizInfo Refusal) → move_at s at ≡ end read → siz_from s at ≡ read
unfolding siz_from
read_end_lem s = ended_end _ (move_at s) (length s) (rises s)

pub read_on : (s : List ℕ) (at next : ℕ) → move_at s at ≡ on next → siz_from s at ≡ siz_from s next
unfolding siz_from
read_on s = ended_on _ (move_at s) (length s) (rises s)

-- ---- how samples are held, by the range of their bits

module _ (bits : ℕ) (signed : Bool) where
  pub sample_8 : 1 ≤ bits → bits ≤ 8 → sample_type bits signed ≡ cond signed Int8 UInt8
  unfolding sample_type between
  sample_8 l h = rw (le-leb _ _ l, le-leb _ _ h)

  pub sample_16 : 9 ≤ bits → bits ≤ 16 → sample_type bits signed ≡ cond signed Int16 UInt16
  unfolding sample_type between
  sample_16 l h = rw (le-leb 1 bits (omega arith), lt-leb bits 8 (omega arith), le-leb _ _ l, le-leb _ _ h)

  pub sample_32 : 17 ≤ bits → bits ≤ 32 → sample_type bits signed ≡ cond signed Int32 UInt32
  unfolding sample_type between
  sample_32 l h =
      rw (le-leb 1 bits (omega arith), lt-leb bits 8 (omega arith), le-leb 9 bits (omega arith), lt-leb bits 16 (omega arith), le-leb _ _ l, le-leb _ _ h)

  pub sample_none : bits < 1 → sample_type bits signed ≡ UInt8
  unfolding sample_type between
  sample_none h = rw (lt-leb 1 bits h, lt-leb 9 bits (omega arith), lt-leb 17 bits (omega arith))

  pub sample_many : 32 < bits → sample_type bits signed ≡ UInt8
  unfolding sample_type between
  sample_many h =
      rw (le-leb 1 bits (omega arith), lt-leb bits 8 (omega arith), le-leb 9 bits (omega arith), lt-leb bits 16 (omega arith), le-leb 17 bits (omega arith), lt-leb bits 32 h)
