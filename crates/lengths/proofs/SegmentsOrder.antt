-- The order of Ztlm, as an array of 256 gives it: those with 0, then those with 1, and on. A segment that is inserted among them goes before those of its
-- own Ztlm and behind all of a lower one.
use Prim.Native.Nat.{ℕ, zero, suc, ◌+◌, ◌-◌, ◌≤◌, ◌<◌}
use native.Mathlib.Omega.{arith}
use mathlib.Core.Path.{◌≡◌, refl, sym, ap, ap₂, ◌∙◌}
use mathlib.Core.List.{List, [], ◌∷◌, ◌++◌}
use lib.ListN.{get_or}
use lib.Dec.{eqb}
use borrow.Author.Tests.{eq-eqb, ne_eqb, le-leb, lt-leb, eqb-true, eqb-false}
use Rattle.numbers.proofs.Choice.{by_bool}
use Rattle.chain.specs.Chain.{Visit}
use Rattle.header.specs.Tlm.{ztlm}
use Rattle.lengths.specs.Segments.{insert, ordered}
use Rattle.lengths.specs.Places.{having}

-- those whose Ztlm is z, then those with the next, and on, for n of them
unfoldable pub grouped : List ℕ → ℕ → ℕ → List Visit → List Visit
grouped h z zero vs = []
grouped h z (suc n) vs = having h z vs ++ grouped h (z + 1) n vs

module _ (h : List ℕ) where
  module _ (z : ℕ) (v : Visit) (vs : List Visit) where
    pub having_here : ztlm h v.at ≡ z → having h z (v ∷ vs) ≡ v ∷ having h z vs
    unfolding having
    having_here e = rw (eq-eqb _ _ e)

    pub having_other : (ztlm h v.at ≡ z → ⊥) → having h z (v ∷ vs) ≡ having h z vs
    unfolding having
    having_other n = rw (ne_eqb _ _ n)

  -- the places of one array, from a Ztlm on
  pub grouped_next : (z : ℕ) (vs : List Visit) → z < 256 → grouped h z (256 - z) vs ≡ having h z vs ++ grouped h (z + 1) (256 - (z + 1)) vs
  unfolding grouped
  grouped_next z vs small =
      let more : 256 - z ≡ suc (256 - (z + 1)) = omega arith in
      ap (λ (n : ℕ). grouped h z n vs) more

  pub grouped_end : (z : ℕ) (vs : List Visit) → 256 ≤ z → grouped h z (256 - z) vs ≡ []
  unfolding grouped
  grouped_end z vs done = let none : 256 - z ≡ 0 = omega arith in ap (λ (n : ℕ). grouped h z n vs) none

  grouped_none : (n z : ℕ) → grouped h z n [] ≡ []
  unfolding grouped having
  grouped_none zero z = refl
  grouped_none (suc n) z = grouped_none n (z + 1)

  -- one with a lower Ztlm is not among them
  grouped_below : (n z : ℕ) (v : Visit) (vs : List Visit) → ztlm h v.at < z → grouped h z n (v ∷ vs) ≡ grouped h z n vs
  unfolding grouped
  grouped_below zero z v vs low = refl
  grouped_below (suc n) z v vs low =
      ap₂ ◌++◌ (having_other z v vs (λ e. omega arith)) (grouped_below n (z + 1) v vs (omega arith))

  -- ---- inserting

  -- each has this Ztlm or a higher one
  From : ℕ → List Visit → Type 0
  From z [] = Unit {0}
  From z (v ∷ vs) = (z ≤ ztlm h v.at) × From z vs

  from_lower : (y z : ℕ) → y ≤ z → (vs : List Visit) → From z vs → From y vs
  unfolding From
  from_lower y z low [] f = tt
  from_lower y z low (v ∷ vs) f = let first = f.0 in (omega arith, from_lower y z low vs f.1)

  from_append : (z : ℕ) (us vs : List Visit) → From z us → From z vs → From z (us ++ vs)
  unfolding From
  from_append z [] vs f g = g
  from_append z (u ∷ us) vs f g = (f.0, from_append z us vs f.1 g)

  from_having : (z : ℕ) (vs : List Visit) → From z (having h z vs)
  unfolding From having
  from_having z [] = tt
  from_having z (v ∷ vs) =
      by_bool (eqb (ztlm h v.at) z)
      (λ e. rw e (let same = eqb-true (ztlm h v.at) z e in omega arith, from_having z vs))
      (λ e. rw e (from_having z vs))

  from_grouped : (n z : ℕ) (vs : List Visit) → From z (grouped h z n vs)
  unfolding From grouped
  from_grouped zero z vs = tt
  from_grouped (suc n) z vs =
      from_append z (having h z vs) (grouped h (z + 1) n vs) (from_having z vs) (from_lower z (z + 1) (omega arith) (grouped h (z + 1) n vs) (from_grouped n (z + 1) vs))

  insert_first : (v : Visit) (vs : List Visit) → From (ztlm h v.at) vs → insert h v vs ≡ v ∷ vs
  unfolding insert From
  insert_first v [] f = refl
  insert_first v (u ∷ vs) f = rw (le-leb _ _ f.0)

  insert_past : (z : ℕ) (v : Visit) (us vs : List Visit) → z < ztlm h v.at → insert h v (having h z us ++ vs) ≡ having h z us ++ insert h v vs
  unfolding insert having
  insert_past z v [] vs low = refl
  insert_past z v (u ∷ us) vs low =
      by_bool (eqb (ztlm h u.at) z)
      (λ e. let same = eqb-true (ztlm h u.at) z e in
      rw (e, lt-leb (ztlm h v.at) (ztlm h u.at) (omega arith)) (ap (λ (l : List Visit). u ∷ l) (insert_past z v us vs low)))
      (λ e. rw e (insert_past z v us vs low))

  grouped_insert : (n z : ℕ) (v : Visit) (vs : List Visit) → z ≤ ztlm h v.at → ztlm h v.at < z + n → grouped h z n (v ∷ vs) ≡ insert h v (grouped h z n vs)
  unfolding grouped
  grouped_insert zero z v vs low high = absurd (omega arith)
  grouped_insert (suc n) z v vs low high =
      by_bool (eqb (ztlm h v.at) z)
      (λ e. let same = eqb-true (ztlm h v.at) z e in
      ap₂ ◌++◌ (having_here z v vs same) (grouped_below n (z + 1) v vs (omega arith))
      ∙ sym (insert_first v (having h z vs ++ grouped h (z + 1) n vs) (from_lower (ztlm h v.at) z (omega arith) _ (from_grouped (suc n) z vs))))
      (λ e. let other = eqb-false (ztlm h v.at) z e in
      let past : z < ztlm h v.at = omega (arith, other) in
      ap₂ ◌++◌ (having_other z v vs other) (grouped_insert n (z + 1) v vs (omega arith) (omega (arith, high)))
      ∙ sym (insert_past z v vs (grouped h (z + 1) n vs) past))

  pub ordered_grouped : ((i : ℕ) → get_or h i 0 < 256) → (vs : List Visit) → ordered h vs ≡ grouped h 0 256 vs
  unfolding ordered
  ordered_grouped bytes [] = sym (grouped_none 256 0)
  ordered_grouped bytes (v ∷ vs) =
      ap (insert h v) (ordered_grouped bytes vs) ∙ sym (grouped_insert 256 0 v vs (omega arith) (omega (arith, bytes (v.at + 4))))
