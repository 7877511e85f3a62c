-- Where the header step agrees with ISO/IEC 15444-1: on all that the standard lets stand in a main header. What else the step passes: bytes that are
-- no marker; SOC, SOD, EOC, PLT, PPT, SOP and EPH; a length of 0 or 1.
use Prim.Native.Nat.{ℕ, ◌+◌, ◌/◌, ◌%◌, ◌^◌, ◌≤◌, ◌<◌}
use native.Mathlib.Nat.{lt_of_not-le, not-le_of_lt}
use native.Mathlib.Omega.{arith}
use mathlib.Core.Path.{◌≡◌, refl, sym, ap, ap₂, ◌∙◌}
use mathlib.Core.Bool.{Bool, true, false, ◌&&◌}
use mathlib.Core.Logic.{◌⊎◌, inl, inr}
use mathlib.Core.List.{List, [], ◌∷◌, ◌++◌, append_assoc}
use lib.ListN.{length, length-append}
use lib.Dec.{leb, eqb}
use borrow.Author.Tests.{le-leb, lt-leb, eq-eqb, ne_eqb, leb-true, leb-false}
use Rattle.numbers.specs.Bytes.{be}
use Rattle.numbers.specs.Rows.{row, widths}
use Rattle.types.specs.Markers.{SIZ, SOT, EPH}
use Rattle.header.specs.Step.{delimits, high_ff, is_filler, segment_end, step_at}
use Rattle.header.specs.Iso.{Item, tile_part, marker, segment, none, is_marker, is_bare, is_outside, item_at, Segment as IsoSegment, segment_bytes, InMain}
use Rattle.header.specs.declared.step.HeaderStep.{HeaderStep}
use Rattle.header.specs.declared.step.HeaderStep.TheVariants.{Sot, Delimiter, Segment, CutShort}
use Rattle.numbers.proofs.Choice.{by_test, by_bool}
use Rattle.numbers.proofs.BytesLaws.{be_rest}
use Rattle.numbers.proofs.Rows.{length_rows, be_row, be_behind}
use Rattle.header.proofs.StepLaws.{step_segment}
use Rattle.header.proofs.WalkLaws.{not_true_false}

-- ---- what is read at a position

-- the standard's items as steps, by the marker that stands there: its high byte is FF
abbrev pub step_of : ℕ → Item → HeaderStep
step_of code tile_part = Sot
step_of code (marker next) = Delimiter (record { code = code; high_ff = true; next = next })
step_of code (segment next) = Segment (record { code = code; high_ff = true; next = next })
step_of code none = CutShort

-- two tests that say the same
same_leb : (a b c d : ℕ) → (a ≤ b → c ≤ d) → (c ≤ d → a ≤ b) → leb a b ≡ leb c d
same_leb a b c d f g = by_bool (leb a b) (λ e. e ∙ sym (le-leb c d (f (leb-true a b e)))) (λ e. e ∙ sym (lt-leb c d (lt_of_not-le (λ h. not-le_of_lt (leb-false a b e) (g h)))))

and_right : (a b : Bool) → (a && b) ≡ true → b ≡ true
and_right true b e = e
and_right false b e = cc

and-false : (a : Bool) → (a && false) ≡ false
and-false true = refl
and-false false = refl

and_left : (a b : Bool) → (a && b) ≡ true → a ≡ true
and_left true b e = refl
and_left false b e = e

marker_range : (m : ℕ) → is_marker m ≡ true → (0xff01 ≤ m) × (m ≤ 0xfffe)
unfolding is_marker
marker_range m k = (leb-true 0xff01 m (and_left (leb 0xff01 m) (leb m 0xfffe) k), leb-true m 0xfffe (and_right (leb 0xff01 m) (leb m 0xfffe) k))

pub marker_ff : (m : ℕ) → is_marker m ≡ true → high_ff m ≡ true
unfolding high_ff
marker_ff m k = eq-eqb (m / 256) 0xff (omega (arith, marker_range m k))

-- so a filler is no marker of the standard's
pub marker_no_filler : (m : ℕ) → is_marker m ≡ true → is_filler m ≡ false
unfolding is_filler
marker_no_filler m k = rw (marker_ff m k) (and-false (delimits m))

-- of a marker other than EPH, the low byte alone tells whether it has no parameters
low_byte : (m : ℕ) → is_marker m ≡ true → (m ≡ EPH → ⊥) → is_bare m ≡ delimits m
unfolding is_bare delimits
low_byte m k eph =
    let range = marker_range m k in
    let low : m ≡ 0xff00 + m % 256 = omega arith in
    rw (ne_eqb (m % 256) 0x92 (λ e. eph (omega arith)))
    (ap₂ ◌&&◌ (same_leb 0xff30 m 0x30 (m % 256) (omega arith) (omega arith)) (same_leb m 0xff3f (m % 256) 0x3f (omega arith) (omega arith)))

bare_delimits : (m : ℕ) → is_marker m ≡ true → is_bare m ≡ true → delimits m ≡ true
unfolding is_bare
bare_delimits m k e = sym (low_byte m k (λ h. not_true_false (sym e ∙ ap is_bare h))) ∙ e

inside_delimits : (m : ℕ) → is_marker m ≡ true → is_outside m ≡ false → is_bare m ≡ delimits m
unfolding is_outside
inside_delimits m k o = low_byte m k (λ h. not_true_false (ap is_outside (sym h) ∙ o))

-- whatever the standard finds, the step finds
pub step_standard : (s : List ℕ) (at : ℕ) → (item_at s at ≡ none) ⊎ (step_at s at ≡ step_of (be 2 s at) (item_at s at))
unfolding item_at step_at segment_end
step_standard s at =
    let m : ℕ = be 2 s at in
    let P : Item → Type 0 = λ i. (i ≡ none) ⊎ (step_at s at ≡ step_of m i) in
    by_test P (leb (at + 2) (length s))
    (λ e₁. by_test P (is_marker m)
    (λ k. by_test P (eqb m SOT) (λ e₂. inr (rw (e₁, e₂)))
    (λ e₂. by_test P (is_bare m) (λ e₃. inr (rw (e₁, e₂, bare_delimits m k e₃, marker_ff m k)))
    (λ e₃. by_test P (is_outside m) (λ _. inl refl)
    (λ o. by_test P (leb (at + 4) (length s))
    (λ e₄. by_test P (leb 2 (be 2 s (at + 2)) && leb (at + (2 + be 2 s (at + 2))) (length s))
    (λ e₅. inr (rw (e₁, e₂, ← inside_delimits m k o, e₃, e₄, and_right (leb 2 (be 2 s (at + 2))) _ e₅, marker_ff m k)))
    (λ _. inl refl))
    (λ _. inl refl)))))
    (λ _. inl refl))
    (λ _. inl refl)

-- and where a marker stands that is not outside, with a length of 2 or more, the two are the same
pub same_standard : (s : List ℕ) (at : ℕ) → is_marker (be 2 s at) ≡ true → is_outside (be 2 s at) ≡ false → (at + 4 ≤ length s → 2 ≤ be 2 s (at + 2))
    → step_at s at ≡ step_of (be 2 s at) (item_at s at)
unfolding item_at step_at segment_end
same_standard s at k o l =
    let m : ℕ = be 2 s at in
    let bare : is_bare m ≡ delimits m = inside_delimits m k o in
    by_bool (leb (at + 2) (length s))
    (λ e₁. by_bool (eqb m SOT) (λ e₂. rw (e₁, k, e₂))
    (λ e₂. by_bool (is_bare m) (λ e₃. rw (e₁, k, e₂, ← bare, e₃, marker_ff m k))
    (λ e₃. by_bool (leb (at + 4) (length s))
    (λ e₄. by_bool (leb (at + (2 + be 2 s (at + 2))) (length s))
    (λ e₅. rw (e₁, k, e₂, ← bare, e₃, o, e₄, le-leb _ _ (l (leb-true _ _ e₄)), e₅, marker_ff m k))
    (λ e₅. rw (e₁, k, e₂, ← bare, e₃, o, e₄, le-leb _ _ (l (leb-true _ _ e₄)), e₅)))
    (λ e₄. rw (e₁, k, e₂, ← bare, e₃, o, e₄)))))
    (λ e₁. rw e₁)

-- ---- a segment's bytes

-- SIZ may stand in a main header
pub siz_inside : (g : IsoSegment) → g.marker ≡ SIZ → 2 + length g.parameters < 2 ^ 16 → InMain g
unfolding is_marker is_bare is_outside
siz_inside g e fits = record { marker = ap is_marker e; parameters = ap is_bare e; inside = ap is_outside e; tile_part = λ h. omega arith; fits = fits }

-- behind any bytes, and with any behind it
module _ (front : List ℕ) (g : IsoSegment) (rest : List ℕ) (m : InMain g) where
  -- its marker is read
  pub segment_marker : be 2 (front ++ (segment_bytes g ++ rest)) (length front) ≡ g.marker
  unfolding segment_bytes widths
  segment_marker =
      rw append_assoc (be_behind 2 front _ ∙ be_row [] 2 g.marker _ (g.parameters ++ rest) (omega (arith, marker_range g.marker m.marker)))

  -- and the segment is passed
  pub segment_standard : step_at (front ++ (segment_bytes g ++ rest)) (length front)
      ≡ Segment (record { code = g.marker; high_ff = true; next = length front + length (segment_bytes g) })
  unfolding segment_end segment_bytes widths
  segment_standard =
      let s : List ℕ = front ++ (segment_bytes g ++ rest) in
      let at : ℕ = length front in
      let l : be 2 s (at + 2) ≡ 2 + length g.parameters =
      rw append_assoc (be_rest 2 front _ 2 ∙ be_row (row 2 g.marker ∷ []) 2 _ [] (g.parameters ++ rest) m.fits) in
      let own : length (segment_bytes g) ≡ 4 + length g.parameters = rw (length-append, length_rows) in
      let whole : length s ≡ at + (length (segment_bytes g) + length rest) = simp length-append in
      let bare : delimits (be 2 s at) ≡ false = ap delimits segment_marker ∙ sym (inside_delimits g.marker m.marker m.inside) ∙ m.parameters in
      let high : high_ff (be 2 s at) ≡ true = ap high_ff segment_marker ∙ marker_ff g.marker m.marker in
      let ends : segment_end s at ≡ at + length (segment_bytes g) = omega arith in
      step_segment s at (omega arith) (λ e. m.tile_part (sym segment_marker ∙ e)) bare (omega arith) (omega arith)
      ∙ (λ i. Segment (record { code = segment_marker i; high_ff = high i; next = ends i }))
