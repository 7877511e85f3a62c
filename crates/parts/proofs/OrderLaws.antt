-- The pass over a table's records opened once: a law for each case of its step and of its end, and that what it answers there is what the numbers of the
-- tile's entries say.
use Prim.Native.Nat.{ℕ, suc, ◌+◌}
use native.Mathlib.Nat.{add-zero, zero-add}
use native.Mathlib.Omega.{arith}
use mathlib.Core.Path.{◌≡◌, refl, sym, ap, ◌∙◌}
use mathlib.Core.Bool.{Bool, true, false, not, ◌&&◌, and-true}
use mathlib.Core.List.{List, [], ◌∷◌}
use lib.ListN.{length}
use lib.Dec.{eqb, eqb-suc-zero}
use borrow.Author.Tests.{eq-eqb, ne_eqb, eqb-true, eqb-false}
use Rattle.std.specs.Prelude.{Option, Some, None}
use Rattle.numbers.proofs.Choice.{by_bool}
use Rattle.types.specs.declared.PartNumbers.{PartNumbers}
use Rattle.types.specs.declared.PartNumbers.TheVariants.{Known, NotKnown}
use Rattle.types.specs.declared.TilePartEntry.{TilePartEntry}
use Rattle.parts.specs.Tiles.{of_tile}
use Rattle.parts.specs.Order.{numbers_of, numbered_as, run_from, runs, in_order, next_numbers, due_of, order_step, order_end}
use Rattle.parts.specs.declared.order.Due.{Due}

-- ---- the step, case by case

module _ (e : TilePartEntry) (tile : ℕ) (due : Due) where
  pub step_other : (e.tile_index ≡ tile → ⊥) → order_step e tile due ≡ Some due
  unfolding order_step
  step_other n = rw (ne_eqb _ _ n)

  module _ (same : e.tile_index ≡ tile) where
    pub step_unknown : e.numbers ≡ NotKnown → order_step e tile due ≡ None
    unfolding order_step next_numbers
    step_unknown k = rw (eq-eqb _ _ same, k)

    module _ (t m : ℕ) (known : e.numbers ≡ Known t m) where
      pub step_late : (t ≡ due.passed → ⊥) → order_step e tile due ≡ None
      unfolding order_step next_numbers
      step_late n = rw (eq-eqb _ _ same, known, ne_eqb _ _ n)

      module _ (here : t ≡ due.passed) where
        pub step_silent : m ≡ 0 → order_step e tile due ≡ Some (due_of (due.passed + 1) due.given)
        unfolding order_step next_numbers
        step_silent z = rw (eq-eqb _ _ same, known, eq-eqb _ _ here, eq-eqb _ _ z)

        module _ (some : m ≡ 0 → ⊥) where
          pub step_first : due.given ≡ 0 → order_step e tile due ≡ Some (due_of (due.passed + 1) m)
          unfolding order_step next_numbers
          step_first z = rw (eq-eqb _ _ same, known, eq-eqb _ _ here, ne_eqb _ _ some, eq-eqb _ _ z)

          pub step_again : (due.given ≡ 0 → ⊥) → m ≡ due.given → order_step e tile due ≡ Some (due_of (due.passed + 1) due.given)
          unfolding order_step next_numbers
          step_again n z = rw (eq-eqb _ _ same, known, eq-eqb _ _ here, ne_eqb _ _ some, ne_eqb _ _ n, eq-eqb _ _ z)

          pub step_another : (due.given ≡ 0 → ⊥) → (m ≡ due.given → ⊥) → order_step e tile due ≡ None
          unfolding order_step next_numbers
          step_another n z = rw (eq-eqb _ _ same, known, eq-eqb _ _ here, ne_eqb _ _ some, ne_eqb _ _ n, ne_eqb _ _ z)

-- ---- the end, case by case

module _ (due : Due) where
  pub end_none : due.passed ≡ 0 → order_end due ≡ false
  unfolding order_end
  end_none z = rw (eq-eqb _ _ z)

  module _ (some : due.passed ≡ 0 → ⊥) where
    pub end_silent : due.given ≡ 0 → order_end due ≡ eqb due.given 0
    unfolding order_end
    end_silent z = rw (ne_eqb _ _ some, eq-eqb _ _ z)

    pub end_given : (due.given ≡ 0 → ⊥) → order_end due ≡ eqb due.given due.passed
    unfolding order_end
    end_given n = rw (ne_eqb _ _ some, ne_eqb _ _ n)

-- ---- the pass

-- the records that are left, from where the pass stands
pub order_from : ℕ → List TilePartEntry → Option Due → Bool
order_from tile [] (Some due) = order_end due
order_from tile [] None = false
order_from tile (e ∷ es) (Some due) = order_from tile es (order_step e tile due)
order_from tile (e ∷ es) None = false

pub order_none : {es : List TilePartEntry} (tile : ℕ) (due : Due) → es ≡ [] → order_from tile es (Some due) ≡ order_end due
unfolding order_from
order_none tile due e = ap (λ (l : List TilePartEntry). order_from tile l (Some due)) e

pub order_next : {es rest : List TilePartEntry} {e : TilePartEntry} (tile : ℕ) (due : Due) → es ≡ e ∷ rest
    → order_from tile es (Some due) ≡ order_from tile rest (order_step e tile due)
unfolding order_from
order_next tile due e = ap (λ (l : List TilePartEntry). order_from tile l (Some due)) e

pub order_broken : (tile : ℕ) (es : List TilePartEntry) → order_from tile es None ≡ false
unfolding order_from
order_broken tile [] = refl
order_broken tile (e ∷ es) = refl

-- the same of the tile's numbers alone
pass_from : List PartNumbers → Option Due → Bool
pass_from [] (Some due) = order_end due
pass_from [] None = false
pass_from (k ∷ ks) (Some due) = pass_from ks (next_numbers k due)
pass_from (k ∷ ks) None = false

pass_broken : (ks : List PartNumbers) → pass_from ks None ≡ false
unfolding pass_from
pass_broken [] = refl
pass_broken (k ∷ ks) = refl

of_tile_lem : (tile : ℕ) (es : List TilePartEntry) (o : Option Due) → order_from tile es o ≡ pass_from (numbers_of tile es) o
unfolding order_from pass_from numbers_of of_tile order_step
of_tile_lem tile [] (Some due) = refl
of_tile_lem tile [] None = refl
of_tile_lem tile (e ∷ es) None = sym (pass_broken (numbers_of tile (e ∷ es)))
of_tile_lem tile (e ∷ es) (Some due) =
    by_bool (eqb e.tile_index tile)
    (λ t. rw t (of_tile_lem tile es (next_numbers e.numbers due)))
    (λ f. rw f (of_tile_lem tile es (Some due)))

-- ---- what it answers

asked_again : (x r z : Bool) → r && (z && x) ≡ (x && r) && (z && x)
asked_again true r z = refl
asked_again false true true = refl
asked_again false true false = refl
asked_again false false z = refl

asked_first : (x r z : Bool) → r && (z && x) ≡ (x && r) && (z && true)
asked_first true r z = refl
asked_first false true true = refl
asked_first false true false = refl
asked_first false false z = refl

never_both : (r z : Bool) → r && (z && false) ≡ false
never_both true true = refl
never_both true false = refl
never_both false z = refl

-- two TNsot that differ are not both their number
apart : (m given n : ℕ) (r z : Bool) → (m ≡ given → ⊥) → (eqb m n && r) && (z && eqb given n) ≡ false
apart m given n r z differ =
    by_bool (eqb m n)
    (λ e. rw (e, ne_eqb given n (λ f. differ (eqb-true m n e ∙ sym f))) (never_both r z))
    (λ f. rw f)

-- all that follow run on from here, and at the end the TNsot that was given is their number
pass_run : (ks : List PartNumbers) (passed given : ℕ)
    → pass_from ks (Some (due_of passed given)) ≡ run_from (passed + length ks) passed ks && order_end (due_of (passed + length ks) given)
unfolding pass_from run_from next_numbers numbered_as order_end
pass_run [] passed given = rw add-zero
pass_run (NotKnown ∷ ks) passed given = pass_broken ks
pass_run (Known t m ∷ ks) passed given =
    let n : ℕ = passed + suc (length ks) in
    let rest : Bool = run_from n (passed + 1) ks in
    let some : Bool = not (eqb n 0) in
    let all : passed + 1 + length ks ≡ n = omega arith in
    by_bool (eqb t passed)
    (λ due. by_bool (eqb m 0)
    (λ silent. rw (due, silent) (rw all at (pass_run ks (passed + 1) given)))
    (λ gives. by_bool (eqb given 0)
    (λ none. rw (due, gives, none) (rw (all, gives) at (pass_run ks (passed + 1) m) ∙ asked_first (eqb m n) rest some))
    (λ told. by_bool (eqb m given)
    (λ again. rw (due, gives, told, again)
    (rw (all, told) at (pass_run ks (passed + 1) given)
    ∙ asked_again (eqb given n) rest some
    ∙ ap (λ (k : ℕ). (eqb k n && rest) && (some && eqb given n)) (sym (eqb-true m given again))))
    (λ another. rw (due, gives, told, another) (pass_broken ks ∙ sym (apart m given n rest some (eqb-false m given another)))))))
    (λ late. rw late (pass_broken ks))

pass_whole : (ks : List PartNumbers) → pass_from ks (Some (due_of 0 0)) ≡ runs ks
unfolding runs order_end
pass_whole [] = pass_run [] 0 0
pass_whole (k ∷ ks) =
    pass_run (k ∷ ks) 0 0
    ∙ ap (λ (n : ℕ). run_from n 0 (k ∷ ks) && order_end (due_of n 0)) (zero-add (suc (length ks)))
    ∙ rw (eqb-suc-zero (length ks)) (and-true (run_from (suc (length ks)) 0 (k ∷ ks)))

pub order_whole : (tile : ℕ) (es : List TilePartEntry) → order_from tile es (Some (due_of 0 0)) ≡ in_order tile es
unfolding in_order
order_whole tile es = of_tile_lem tile es (Some (due_of 0 0)) ∙ pass_whole (numbers_of tile es)
