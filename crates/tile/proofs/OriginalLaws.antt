-- Where a tile lies, opened once: a law for each case, and that what is found lies within the image.
use Prim.Native.Nat.{ℕ, ◌+◌, ◌-◌, ◌*◌, ◌/◌, ◌%◌, ◌^◌, ◌≤◌, ◌<◌, min}
use native.Mathlib.Omega.{arith}
use mathlib.Core.Path.{◌≡◌, refl, ap, ap₂}
use mathlib.Core.List.{List}
use lib.Dec.{leb, ltb, eqb}
use borrow.Author.Tests.{le-leb, lt-leb, lt-ltb, le-ltb, eq-eqb, ne_eqb, leb-true}
use Rattle.std.specs.Prelude.{Option, Some, None}
use Rattle.numbers.specs.Ceiling.{ceil_div}
use Rattle.numbers.proofs.Choice.{by_test}
use Rattle.types.specs.Siz.{xsiz, ysiz, xosiz, yosiz, xtsiz, ytsiz}
use Rattle.types.specs.Area.{Inside}
use Rattle.types.specs.declared.Area.{Area}
use Rattle.tile.specs.Siz.{marker}
use Rattle.tile.specs.Original.{fitting, reaching, axis_of, columns_of, both_axes, in_grid, tile_area}
use Rattle.tile.specs.Rules.{image_area}
use Rattle.tile.specs.declared.siz.Span.{Span}

-- ---- one axis

module _ (end origin size cell : ℕ) where
  pub axis_inside : origin + cell * size + size < 2 ^ 32 → origin + cell * size ≤ min (origin + cell * size + size) end
      → axis_of end origin size cell ≡ Some (record { from = origin + cell * size; to = min (origin + cell * size + size) end })
  unfolding axis_of fitting reaching
  axis_inside fits h =
      rw (lt-ltb (cell * size) (2 ^ 32) (omega arith), lt-ltb (origin + cell * size) (2 ^ 32) (omega arith), lt-ltb _ _ fits, le-leb _ _ h)

  pub axis_below : origin + cell * size + size < 2 ^ 32 → min (origin + cell * size + size) end < origin + cell * size
      → axis_of end origin size cell ≡ None
  unfolding axis_of fitting reaching
  axis_below fits h =
      rw (lt-ltb (cell * size) (2 ^ 32) (omega arith), lt-ltb (origin + cell * size) (2 ^ 32) (omega arith), lt-ltb _ _ fits, lt-leb _ _ h)

  pub axis_passes : 2 ^ 32 ≤ origin + cell * size + size → axis_of end origin size cell ≡ None
  unfolding axis_of fitting
  axis_passes h =
      let P : Option Span → Type 0 = λ a. a ≡ None in
      by_test P (ltb (cell * size) (2 ^ 32))
      (λ _. by_test P (ltb (origin + cell * size) (2 ^ 32)) (λ _. rw (le-ltb _ _ h)) (λ _. refl))
      (λ _. refl)

  -- what it spans lies within the image
  pub axis_within : (s : Span) → axis_of end origin size cell ≡ Some s → (origin ≤ s.from) × ((s.from ≤ s.to) × (s.to ≤ end))
  unfolding axis_of fitting reaching
  axis_within s =
      let P : Option Span → Type 0 = λ x. x ≡ Some s → (origin ≤ s.from) × ((s.from ≤ s.to) × (s.to ≤ end)) in
      let none : P None = λ e. (cc) in
      let x0 : ℕ = origin + cell * size in
      let x1 : ℕ = min (x0 + size) end in
      by_test P (ltb (cell * size) (2 ^ 32))
      (λ _. by_test P (ltb x0 (2 ^ 32))
      (λ _. by_test P (ltb (x0 + size) (2 ^ 32))
      (λ _. by_test P (leb x0 x1)
      (λ l e. let p : x0 ≡ s.from = cc in let q : x1 ≡ s.to = cc in let m : x0 ≤ x1 = leb-true _ _ l in (omega arith, (omega arith, omega arith)))
      (λ _. none))
      (λ _. none))
      (λ _. none))
      (λ _. none)

-- ---- columns

module _ (end origin size : ℕ) where
  pub columns_below : end < origin → columns_of end origin size ≡ 0
  unfolding columns_of
  columns_below h = rw (lt-leb _ _ h)

  pub columns_none : origin ≤ end → size ≡ 0 → columns_of end origin size ≡ 0
  unfolding columns_of
  columns_none h z = rw (le-leb _ _ h, eq-eqb _ _ z)

  pub columns_some : origin ≤ end → (size ≡ 0 → ⊥) → columns_of end origin size ≡ ceil_div (end - origin) size
  unfolding columns_of
  columns_some h n = rw (le-leb _ _ h, ne_eqb _ _ n)

-- ---- the grid

abbrev pub across : List ℕ → ℕ → ℕ → Option Span
across h columns tile = axis_of (xsiz h marker) (xosiz h marker) (xtsiz h marker) (tile % columns)

abbrev pub down : List ℕ → ℕ → ℕ → Option Span
down h columns tile = axis_of (ysiz h marker) (yosiz h marker) (ytsiz h marker) (tile / columns)

module _ (h : List ℕ) (columns tile : ℕ) where
  pub grid_none : columns ≡ 0 → in_grid h columns tile ≡ None
  unfolding in_grid
  grid_none z = rw (eq-eqb _ _ z)

  module _ (some : columns ≡ 0 → ⊥) where
    pub grid_across : across h columns tile ≡ None → in_grid h columns tile ≡ None
    unfolding in_grid both_axes
    grid_across e = rw (ne_eqb _ _ some) (ap (λ (a : Option Span). both_axes a (down h columns tile)) e)

    pub grid_down : (x : Span) → across h columns tile ≡ Some x → down h columns tile ≡ None → in_grid h columns tile ≡ None
    unfolding in_grid both_axes
    grid_down x e f = rw (ne_eqb _ _ some) (ap₂ both_axes e f)

    pub grid_both : (x y : Span) → across h columns tile ≡ Some x → down h columns tile ≡ Some y
        → in_grid h columns tile ≡ Some (record { x0 = x.from; y0 = y.from; x1 = x.to; y1 = y.to })
    unfolding in_grid both_axes
    grid_both x y e f = rw (ne_eqb _ _ some) (ap₂ both_axes e f)

-- ---- within the image

both_within : (h : List ℕ) (a : Area) (x y : Option Span)
    → ((s : Span) → x ≡ Some s → (xosiz h marker ≤ s.from) × ((s.from ≤ s.to) × (s.to ≤ xsiz h marker)))
    → ((s : Span) → y ≡ Some s → (yosiz h marker ≤ s.from) × ((s.from ≤ s.to) × (s.to ≤ ysiz h marker)))
    → both_axes x y ≡ Some a → Inside a (image_area h)
unfolding both_axes image_area
both_within h a (Some x) (Some y) f g e =
    let p = f x refl in
    let q = g y refl in
    let el : x.from ≡ a.x0 = cc in
    let er : x.to ≡ a.x1 = cc in
    let et : y.from ≡ a.y0 = cc in
    let eb : y.to ≡ a.y1 = cc in
    record { left = omega (arith, p.0); wide = omega (arith, p.1.0); right = omega (arith, p.1.1); top = omega (arith, q.0); high = omega (arith, q.1.0); bottom = omega (arith, q.1.1) }
both_within h a (Some x) None f g e = cc
both_within h a None y f g e = cc

-- A tile lies in the image, and ends no sooner than it starts.
pub tile_within : (h : List ℕ) (tile : ℕ) (a : Area) → tile_area h tile ≡ Some a → Inside a (image_area h)
unfolding tile_area in_grid
tile_within h tile a =
    let n : ℕ = columns_of (xsiz h marker) (xosiz h marker) (xtsiz h marker) in
    by_test (λ (t : Option Area). t ≡ Some a → Inside a (image_area h)) (eqb n 0) (λ _ e. (cc))
    (λ _ e. both_within h a (across h n tile) (down h n tile) (axis_within _ _ _ _) (axis_within _ _ _ _) e)
