-- Laws of a chain of steps: the count does not matter; the two equations; a chain is its run and its end, and the other way round; steps
-- that another step takes too are the same run.
use Prim.Native.Nat.{ℕ, zero, suc, ◌-◌, ◌≤◌, ◌<◌}
use native.Mathlib.Omega.{arith}
use mathlib.Core.Path.{◌≡◌, refl, sym, ap, ◌∙◌}
use mathlib.Core.List.{List, []}
use Rattle.chain.specs.Chain.{Move, end, on, Visit, Chain, also, on_move, counted, Rises, chain, Run, stay, step}

module _ {A : Type 0} (short : A) (move : ℕ → Move A) where
  counted_end : (count at : ℕ) (a : A) → move at ≡ end a → counted short move (suc count) at ≡ record { visits = []; stopped = at; ended = a }
  unfolding counted
  counted_end count at a e = ap (λ (m : Move A). on_move m at (counted short move count)) e

  counted_on : (count at next : ℕ) → move at ≡ on next → counted short move (suc count) at ≡ also (record { at = at; next = next }) (counted short move count next)
  unfolding counted
  counted_on count at next e = ap (λ (m : Move A). on_move m at (counted short move count)) e

  module _ (limit : ℕ) (rises : Rises move limit) where
    -- a turn of `same_count`, by what the step finds
    same_turn : (n m at : ℕ) → limit - at < suc n → limit - at < suc m
        → ((next : ℕ) → limit - next < n → limit - next < m → counted short move n next ≡ counted short move m next)
        → (found : Move A) → move at ≡ found → counted short move (suc n) at ≡ counted short move (suc m) at
    same_turn n m at hn hm more (end a) e = counted_end n at a e ∙ sym (counted_end m at a e)
    same_turn n m at hn hm more (on next) e =
        let r = rises at next e in
        counted_on n at next e
        ∙ ap (also (record { at = at; next = next })) (more next (omega arith) (omega arith))
        ∙ sym (counted_on m at next e)

    -- any two counts that are large enough give the same
    same_count : (n m at : ℕ) → limit - at < n → limit - at < m → counted short move n at ≡ counted short move m at
    same_count zero m at hn hm = absurd (omega arith)
    same_count (suc n) zero at hn hm = absurd (omega arith)
    same_count (suc n) (suc m) at hn hm = same_turn n m at hn hm (λ next. same_count n m next) (move at) refl

    -- ---- the two equations of a chain

    pub chain_end : (at : ℕ) (a : A) → move at ≡ end a → chain short move limit at ≡ record { visits = []; stopped = at; ended = a }
    unfolding chain
    chain_end at a e = counted_end limit at a e

    pub chain_on : (at next : ℕ) → move at ≡ on next → chain short move limit at ≡ also (record { at = at; next = next }) (chain short move limit next)
    unfolding chain
    chain_on at next e =
        let r = rises at next e in
        counted_on limit at next e
        ∙ ap (also (record { at = at; next = next })) (same_count limit (suc limit) next (omega arith) (omega arith))

    -- ---- a chain is a run to where its step ends

    -- a run, and the end of the step where it stopped
    pub Whole : ℕ → Chain A → Type 0
    Whole at c = Run move at c.visits c.stopped × (move c.stopped ≡ end c.ended)

    whole_turn : (count at : ℕ) → limit - at < suc count → ((next : ℕ) → limit - next < count → Whole next (counted short move count next))
        → (found : Move A) → move at ≡ found → Whole at (counted short move (suc count) at)
    unfolding Whole also
    whole_turn count at h more (end a) e = rw (counted_end count at a e) (stay, e)
    whole_turn count at h more (on next) e =
        let r = rises at next e in
        let w = more next (omega arith) in
        rw (counted_on count at next e) (step e r.0 w.0, w.1)

    whole_counted : (count at : ℕ) → limit - at < count → Whole at (counted short move count at)
    whole_counted zero at h = absurd (omega arith)
    whole_counted (suc count) at h = whole_turn count at h (λ next. whole_counted count next) (move at) refl

    pub chain_run : (at : ℕ) → Run move at (chain short move limit at).visits (chain short move limit at).stopped
    unfolding chain Whole
    chain_run at = (whole_counted (suc limit) at (omega arith)).0

    pub chain_stops : (at : ℕ) → move (chain short move limit at).stopped ≡ end (chain short move limit at).ended
    unfolding chain Whole
    chain_stops at = (whole_counted (suc limit) at (omega arith)).1

    -- the other way round, a run to where the step ends is the chain
    pub run_chain : {at stop : ℕ} {visits : List Visit} (a : A) → Run move at visits stop → move stop ≡ end a
        → chain short move limit at ≡ record { visits = visits; stopped = stop; ended = a }
    unfolding also
    run_chain {at} a stay e = chain_end at a e
    run_chain {at} a (step {next = next} found past rest) e = chain_on at next found ∙ ap (also (record { at = at; next = next })) (run_chain a rest e)

-- a step does not both end and move on
pub end_on : {A : Type 0} {a : A} {n : ℕ} → ◌≡◌ {A = Move A} (end a) (on n) → ⊥
end_on e = let z : ◌≡◌ {A = ℕ} 0 1 = cc in omega arith

-- a run never goes back
pub run_rises : {A : Type 0} {move : ℕ → Move A} {at stop : ℕ} {visits : List Visit} → Run move at visits stop → at ≤ stop
run_rises stay = omega arith
run_rises (step found past rest) = let h = run_rises rest in omega arith

-- what one step moves on by until it stops, another does too: the same run (of a shorter list that is long enough, say)
pub run_until : {A B : Type 0} {move : ℕ → Move A} {other : ℕ → Move B} {at stop : ℕ} {visits : List Visit}
    → ((at next : ℕ) → next ≤ stop → move at ≡ on next → other at ≡ on next) → Run move at visits stop → Run other at visits stop
run_until same stay = stay
run_until same (step {at = at} {next = next} found past rest) = step (same at next (run_rises rest) found) past (run_until same rest)

-- wherever that is (of a longer list with the same front, say)
pub run_also : {A B : Type 0} {move : ℕ → Move A} {other : ℕ → Move B} → ((at next : ℕ) → move at ≡ on next → other at ≡ on next)
    → {at stop : ℕ} {visits : List Visit} → Run move at visits stop → Run other at visits stop
run_also same = run_until (λ at next _. same at next)
