-- The header step's definition, opened once: a law for each case, and what each answer says of the bytes.
use Prim.Native.Nat.{ℕ, ◌+◌, ◌≤◌, ◌<◌}
use native.Mathlib.Omega.{arith}
use mathlib.Core.Path.{◌≡◌, refl, ap, ◌∙◌}
use mathlib.Core.Bool.{Bool, true, false, not}
use mathlib.Core.List.{List, [], ◌∷◌}
use mathlib.Core.Logic.{inl, inr, ⊎_elim}
use lib.ListN.{length}
use lib.Dec.{leb, eqb}
use borrow.Author.Tests.{le-leb, lt-leb, eq-eqb, ne_eqb, leb-true, eqb-true, eqb-false}
use denote.Enum.Declared.{tag_of}
use types.Run.{OneOf}
use Rattle.header.specs.contracts.step.HeaderStep.{the_type}
use Rattle.numbers.proofs.Choice.{by_test, by_bool}
use Rattle.numbers.specs.Bytes.{be}
use Rattle.types.specs.Markers.{SOT}
use Rattle.header.specs.Step.{delimits, high_ff, is_filler, segment_end, passing, step_at}
use Rattle.header.specs.declared.step.Marker.{Marker}
use Rattle.header.specs.declared.step.HeaderStep.{HeaderStep}
use Rattle.header.specs.declared.step.HeaderStep.TheVariants.{Sot, Delimiter, Segment, CutShort}

module _ (s : List ℕ) (at : ℕ) where
  pub step_short : length s < at + 2 → step_at s at ≡ CutShort
  unfolding step_at
  step_short h = rw (lt-leb _ _ h)

  module _ (marker : at + 2 ≤ length s) where
    pub step_sot : be 2 s at ≡ SOT → step_at s at ≡ Sot
    unfolding step_at
    step_sot e = rw (le-leb _ _ marker, eq-eqb _ _ e)

    module _ (other : be 2 s at ≡ SOT → ⊥) where
      pub step_delimiter : delimits (be 2 s at) ≡ true → step_at s at ≡ Delimiter (passing (be 2 s at) (at + 2))
      unfolding step_at
      step_delimiter d = rw (le-leb _ _ marker, ne_eqb _ _ other, d)

      module _ (long : delimits (be 2 s at) ≡ false) where
        pub step_no_length : length s < at + 4 → step_at s at ≡ CutShort
        unfolding step_at
        step_no_length h = rw (le-leb _ _ marker, ne_eqb _ _ other, long, lt-leb _ _ h)

        pub step_no_end : at + 4 ≤ length s → length s < segment_end s at → step_at s at ≡ CutShort
        unfolding step_at
        step_no_end h e = rw (le-leb _ _ marker, ne_eqb _ _ other, long, le-leb _ _ h, lt-leb _ _ e)

        pub step_segment : at + 4 ≤ length s → segment_end s at ≤ length s → step_at s at ≡ Segment (passing (be 2 s at) (segment_end s at))
        unfolding step_at
        step_segment h e = rw (le-leb _ _ marker, ne_eqb _ _ other, long, le-leb _ _ h, le-leb _ _ e)

-- what an answer says: an SOT's marker stands there; a step that goes on goes forward and not past the end, over a delimiter's marker or a
-- whole segment, whose marker is neither, and tells the marker
abbrev pub Told : List ℕ → ℕ → HeaderStep → Type 0
Told s at Sot = (at + 2 ≤ length s) × (be 2 s at ≡ SOT)
Told s at (Delimiter m) = (at < m.next) × (m.next ≤ length s) × (m.next ≡ at + 2) × (m ≡ passing (be 2 s at) m.next) × (delimits (be 2 s at) ≡ true)
Told s at (Segment m) =
    (at < m.next) × (m.next ≤ length s) × (m.next ≡ segment_end s at) × (m ≡ passing (be 2 s at) m.next)
    × (at + 4 ≤ length s) × (be 2 s at ≡ SOT → ⊥) × (delimits (be 2 s at) ≡ false)
Told s at CutShort = Unit {0}

pub step_told : (s : List ℕ) (at : ℕ) → Told s at (step_at s at)
unfolding step_at
step_told s at =
    by_test (Told s at) (leb (at + 2) (length s))
    (λ m. by_test (Told s at) (eqb (be 2 s at) SOT) (λ e. (leb-true _ _ m, eqb-true _ _ e))
    (λ o. by_test (Told s at) (delimits (be 2 s at)) (λ d. (omega arith, leb-true _ _ m, refl, refl, d))
    (λ d. by_test (Told s at) (leb (at + 4) (length s))
    (λ h. by_test (Told s at) (leb (segment_end s at) (length s)) (λ e. (omega arith, leb-true _ _ e, refl, refl, leb-true _ _ h, eqb-false _ _ o, d)) (λ _. tt))
    (λ _. tt))))
    (λ _. tt)

-- a marker that stands there is a filler where the step says so: a delimiter, and not FF
abbrev pub says_filler : HeaderStep → Bool
says_filler Sot = false
says_filler (Delimiter m) = not m.high_ff
says_filler (Segment m) = false
says_filler CutShort = false

-- an SOT is no delimiter, and no filler
pub sot_no_delimiter : delimits SOT ≡ false
unfolding delimits
sot_no_delimiter = refl

sot_no_filler : is_filler SOT ≡ false
unfolding delimits high_ff is_filler
sot_no_filler = refl

pub filler_said : (s : List ℕ) (at : ℕ) → at + 2 ≤ length s → is_filler (be 2 s at) ≡ says_filler (step_at s at)
unfolding step_at is_filler
filler_said s at marker =
    by_bool (eqb (be 2 s at) SOT) (λ e. rw (le-leb _ _ marker, e) (ap is_filler (eqb-true (be 2 s at) SOT e) ∙ sot_no_filler))
    (λ o. by_bool (delimits (be 2 s at)) (λ d. rw (le-leb _ _ marker, o, d))
    (λ d. by_bool (leb (at + 4) (length s))
    (λ h. by_bool (leb (segment_end s at) (length s)) (λ e. rw (le-leb _ _ marker, o, d, h, e)) (λ e. rw (le-leb _ _ marker, o, d, h, e)))
    (λ h. rw (le-leb _ _ marker, o, d, h))))

-- neither a segment nor a delimiter
pub neither : (tag : ℕ) → OneOf (0 ∷ 1 ∷ 3 ∷ []) tag → OneOf (0 ∷ 2 ∷ 3 ∷ []) tag → OneOf (0 ∷ 3 ∷ []) tag
neither tag k g = ⊎_elim inl (⊎_elim (λ e. ⊎_elim inl (λ h. absurd (⊎_elim (λ f. omega arith) (λ f. omega arith) h)) g) inr) k

-- neither an SOT nor a step that goes on
pub only_cut : (found : HeaderStep) → OneOf (0 ∷ 3 ∷ []) (tag_of the_type found) → OneOf (1 ∷ 2 ∷ 3 ∷ []) (tag_of the_type found) → found ≡ CutShort
only_cut Sot k g = absurd (⊎_elim (λ e. omega arith) (⊎_elim (λ e. omega arith) (λ e. omega arith)) g)
only_cut (Delimiter n) k g = absurd (⊎_elim (λ e. omega arith) (λ e. omega arith) k)
only_cut (Segment n) k g = absurd (⊎_elim (λ e. omega arith) (λ e. omega arith) k)
only_cut CutShort k g = refl

-- a step that is no segment, no delimiter and no SOT is cut short
pub cut_else : (found : HeaderStep) → ((m : Marker) → found ≡ Segment m → ⊥) → ((m : Marker) → found ≡ Delimiter m → ⊥) → (found ≡ Sot → ⊥) → found ≡ CutShort
cut_else Sot segment delimiter sot = absurd (sot refl)
cut_else (Delimiter m) segment delimiter sot = absurd (delimiter m refl)
cut_else (Segment m) segment delimiter sot = absurd (segment m refl)
cut_else CutShort segment delimiter sot = refl
