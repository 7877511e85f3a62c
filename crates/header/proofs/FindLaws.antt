-- The first visit with a marker, while the walk goes on: what was found so far, or what lies ahead, is what is found in the whole.
use Prim.Native.Nat.{ℕ, ◌≤◌}
use mathlib.Core.Path.{◌≡◌, refl, sym, ap, ◌∙◌}
use mathlib.Core.Logic.{◌⊎◌, ⊎_elim}
use mathlib.Core.Bool.{true, false}
use mathlib.Core.List.{List}
use lib.ListN.{length}
use borrow.Author.Tests.{eq-eqb, ne_eqb}
use Rattle.std.specs.Prelude.{is_some, Option, Some, None, Result, Ok, Err}
use Rattle.numbers.specs.Bytes.{be}
use Rattle.types.specs.declared.Refusal.{Refusal}
use Rattle.chain.specs.Chain.{Chain}
use Rattle.header.specs.Walk.{WalkEnd, walk_step_at, walk_from}
use Rattle.header.specs.Parse.{read_as}
use Rattle.header.specs.Find.{first_of, find_in}
use Rattle.header.specs.declared.walk.Passed.{Passed as Passing}
use Rattle.header.proofs.WalkLaws.{not_true_false, passed_is, walk_found, walk_refused}
use Rattle.header.proofs.WalkVisited.{visits_on, ended_on}
use Rattle.types.specs.declared.CodestreamOffset.{CodestreamOffset}

-- what is found from a position on
abbrev found_from : List ℕ → ℕ → ℕ → Result (Option CodestreamOffset) Refusal
found_from s marker at = first_of s marker (walk_from s at).visits

-- what is found of the whole walk
abbrev pub found : List ℕ → ℕ → Result (Option CodestreamOffset) Refusal
found s marker = find_in (read_as s (walk_from s 2) (walk_from s 2).ended) s marker

-- where the first one was passed, or what is found ahead, is what the whole walk finds
abbrev Sought : List ℕ → ℕ → ℕ → Option CodestreamOffset → Type 0
Sought s marker at None = found_from s marker at ≡ found_from s marker 2
Sought s marker at (Some first) = found_from s marker 2 ≡ Ok (Some first)

-- the walk stands at a position
pub record Seeking (s : List ℕ) (marker at : ℕ) (first : Option CodestreamOffset) : Type 0 where
  pub inside : at ≤ length s
  pub ends : (walk_from s at).ended ≡ (walk_from s 2).ended
  pub sought : Sought s marker at first

pub seeking_start : (s : List ℕ) (marker : ℕ) → 2 ≤ length s → Seeking s marker 2 None
seeking_start s marker h = record { inside = h; ends = refl; sought = refl }

module _ (s : List ℕ) (marker at : ℕ) where
  module _ (p : Passing) (passed : walk_step_at s at ≡ Ok (Some p)) where
    found_here : be 2 s at ≡ marker → found_from s marker at ≡ Ok (Some (record { 0 = at }))
    unfolding first_of
    found_here e = ap (first_of s marker) (visits_on s at p passed) ∙ rw (eq-eqb _ _ e)

    found_later : (be 2 s at ≡ marker → ⊥) → found_from s marker at ≡ found_from s marker p.next
    unfolding first_of
    found_later n = ap (first_of s marker) (visits_on s at p passed) ∙ rw (ne_eqb _ _ n)

    seeking : {old new : Option CodestreamOffset} → Seeking s marker at old → Sought s marker p.next new → Seeking s marker p.next new
    seeking c n = record { inside = (passed_is s at p passed).inside; ends = sym (ended_on s at p passed) ∙ c.ends; sought = n }

    -- the first one
    pub seeking_here : (first : Option CodestreamOffset) → Seeking s marker at first → is_some first ≡ false → be 2 s at ≡ marker
        → {o : CodestreamOffset} → o.0 ≡ at → Seeking s marker p.next (Some o)
    seeking_here None c none m e = seeking c (sym c.sought ∙ found_here m ∙ (λ i. Ok (Some (record { 0 = sym e i }))))
    seeking_here (Some first) c none m e = absurd (not_true_false none)

    -- a later one, or another marker
    pub seeking_on : (first : Option CodestreamOffset) → Seeking s marker at first → (be 2 s at ≡ marker → ⊥) ⊎ (is_some first ≡ true) → Seeking s marker p.next first
    seeking_on None c other = seeking c (⊎_elim (λ n. sym (found_later n) ∙ c.sought) (λ e. absurd (not_true_false (sym e))) other)
    seeking_on (Some first) c other = seeking c c.sought

  -- ---- the end

  module _ (first : Option CodestreamOffset) (c : Seeking s marker at first) where
    pub sought_refused : (r : Refusal) → walk_step_at s at ≡ Err r → found s marker ≡ Err r
    unfolding find_in read_as
    sought_refused r e =
        ap (λ (w : WalkEnd). find_in (read_as s (walk_from s 2) w) s marker) (sym c.ends ∙ ap (λ (x : Chain WalkEnd). x.ended) (walk_refused s at r e))

    pub sought_found : walk_step_at s at ≡ Ok None → found s marker ≡ Ok first
    unfolding find_in read_as first_of
    sought_found sot =
        ap (λ (w : WalkEnd). find_in (read_as s (walk_from s 2) w) s marker) (sym c.ends ∙ ap (λ (x : Chain WalkEnd). x.ended) (walk_found s at sot))
        ∙ by first c.sought
      where
        by : (first : Option CodestreamOffset) → Sought s marker at first → found_from s marker 2 ≡ Ok first
        by None n = sym n ∙ ap (λ (x : Chain WalkEnd). first_of s marker x.visits) (walk_found s at sot)
        by (Some first) e = e
