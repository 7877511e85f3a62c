-- The order of the segments: every segment stands in it as often as in the header; where no Ztlm is used twice, Ztlm rises in it, so that each stands there
-- once; in file order it is the header's own where Ztlm does not fall. 32 is given exactly where a Ztlm is used twice, at the first segment that repeats one.
use Prim.Native.Nat.{ℕ, ◌+◌, ◌≤◌, ◌<◌}
use native.Mathlib.Omega.{arith}
use mathlib.Core.Path.{◌≡◌, refl, sym, ap, ◌∙◌}
use mathlib.Core.Bool.{true, false, cond}
use mathlib.Core.List.{List, [], ◌∷◌, ◌++◌}
use lib.ListN.{length}
use lib.Dec.{leb, eqb}
use borrow.Author.Tests.{le-leb, leb-true, leb-false, eq-eqb, eqb-true}
use Rattle.numbers.proofs.Choice.{by_bool}
use Rattle.types.specs.Refusals.{refusal}
use Rattle.types.specs.declared.Refusal.{Refusal}
use Rattle.chain.specs.Chain.{Visit, Run, stay, step}
use Rattle.header.specs.Tlm.{Entry, ztlm, entry_count, entries_on}
use Rattle.header.specs.Walk.{at_first_sot, refused, walk_at}
use Rattle.header.specs.Strip.{is_tlm}
use Rattle.header.specs.Numbering.{next_number, entries_by}
use Rattle.header.specs.declared.numbering.Numbering.{Numbering}
use Rattle.header.proofs.WalkLaws.{walk_run}
use Rattle.lengths.specs.Segments.{tlms_in, tlms_of, is_in, once, insert, ordered, times, numbers_of, Rising, NotFalling}
use Rattle.types.specs.declared.Reason.TheVariants.{TlmNumberRepeated}

-- ---- a permutation

module _ (h : List ℕ) where
  insert_times : (at : ℕ) (v : Visit) (vs : List Visit) → times at (insert h v vs) ≡ times at (v ∷ vs)
  unfolding insert times
  insert_times at v [] = refl
  insert_times at v (u ∷ vs) =
      by_bool (leb (ztlm h v.at) (ztlm h u.at))
      (λ e. rw e)
      (λ e. rw e (let more = insert_times at v vs in omega arith))

  pub ordered_times : (at : ℕ) (vs : List Visit) → times at (ordered h vs) ≡ times at vs
  unfolding ordered times
  ordered_times at [] = refl
  ordered_times at (v ∷ vs) = insert_times at v (ordered h vs) ∙ ap (λ (n : ℕ). cond (eqb v.at at) 1 0 + n) (ordered_times at vs)

  insert_length : (v : Visit) (vs : List Visit) → length (insert h v vs) ≡ length (v ∷ vs)
  unfolding insert
  insert_length v [] = refl
  insert_length v (u ∷ vs) =
      by_bool (leb (ztlm h v.at) (ztlm h u.at))
      (λ e. rw e)
      (λ e. rw e (let more = insert_length v vs in omega arith))

  pub ordered_length : (vs : List Visit) → length (ordered h vs) ≡ length vs
  unfolding ordered
  ordered_length [] = refl
  ordered_length (v ∷ vs) = let more = ordered_length vs in insert_length v (ordered h vs) ∙ omega arith

  -- a segment stands in the header once: the walk never goes back
  segments_rise : (p : ℕ) {at stop : ℕ} {visits : List Visit} → Run (walk_at h) at visits stop → (p < at → times p (tlms_in h visits) ≡ 0) × (times p (tlms_in h visits) ≤ 1)
  unfolding tlms_in times
  segments_rise p stay = (λ _. refl, omega arith)
  segments_rise p (step {at = at} {next = next} {rest = rest} found past more) =
      let later = segments_rise p more in
      by_bool (is_tlm h (record { at = at; next = next }))
      (λ e. rw e (by_bool (eqb at p)
      (λ q. let same = eqb-true at p q in let none = later.0 (omega arith) in rw q (λ low. absurd (omega arith), omega arith))
      (λ q. rw q (λ low. let none = later.0 (omega arith) in omega arith, let few = later.1 in omega arith))))
      (λ e. rw e (λ low. later.0 (omega arith), later.1))

  -- so it stands in the order once, and nothing else does
  pub each_once : (p : ℕ) → (times p (ordered h (tlms_of h)) ≡ times p (tlms_of h)) × (times p (tlms_of h) ≤ 1)
  each_once p = (ordered_times p (tlms_of h), (segments_rise p (walk_run h 2)).1)

  -- ---- in file order

  pub ordered_same : (vs : List Visit) → NotFalling h vs → ordered h vs ≡ vs
  unfolding ordered insert NotFalling
  ordered_same [] n = refl
  ordered_same (v ∷ []) n = refl
  ordered_same (v ∷ u ∷ vs) n = ap (insert h v) (ordered_same (u ∷ vs) n.1) ∙ rw (le-leb _ _ n.0)

-- the TLM segments alone have all entries
pub entries_of_tlms : (n : Numbering) (h : List ℕ) (k : ℕ) (vs : List Visit) → entries_by n h k (tlms_in h vs) ≡ entries_by n h k vs
unfolding entries_by tlms_in
entries_of_tlms n h k [] = refl
entries_of_tlms n h k (v ∷ vs) =
    by_bool (is_tlm h v)
    (λ e. rw (e, e) (ap (λ (es : List Entry). entries_on h v.at k 0 (entry_count h v.at) ++ es) (entries_of_tlms n h (next_number n h v.at k) vs)))
    (λ e. rw e (entries_of_tlms n h k vs))

-- ---- Ztlm used twice

refused_here : {r q : Refusal} → refused r ≡ refused q → r ≡ q
refused_here e = cc

first_here : {r : Refusal} → refused r ≡ at_first_sot → ⊥
first_here e = let z : ◌≡◌ {A = ℕ} 0 1 = cc in omega arith

-- the first segment that repeats a Ztlm, with those before it, of which none does
pub record Repeat (h used : List ℕ) (vs : List Visit) (r : Refusal) : Type 0 where
  pub front : List Visit
  pub here : Visit
  pub behind : List Visit
  pub split : vs ≡ front ++ (here ∷ behind)
  pub told : r ≡ refusal TlmNumberRepeated here.at
  pub repeats : is_in (ztlm h here.at) (numbers_of h front used) ≡ true
  pub none : once h used front ≡ at_first_sot

module _ (h : List ℕ) where
  pub repeated_first : (used : List ℕ) (vs : List Visit) (r : Refusal) → once h used vs ≡ refused r → Repeat h used vs r
  unfolding once numbers_of
  repeated_first used [] r e = absurd (first_here (sym e))
  repeated_first used (v ∷ vs) r e =
      by_bool (is_in (ztlm h v.at) used)
      (λ t. record { front = []; here = v; behind = vs; split = refl; told = sym (refused_here (rw t at e)); repeats = t; none = refl })
      (λ t.
      let more = repeated_first (ztlm h v.at ∷ used) vs r (rw t at e) in
      record {
        front = v ∷ more.front;
        here = more.here;
        behind = more.behind;
        split = ap (λ (l : List Visit). v ∷ l) more.split;
        told = more.told;
        repeats = more.repeats;
        none = rw t more.none;
      })

  -- the other way round: behind segments of which none repeats a Ztlm, one that does is refused
  pub first_repeated : (used : List ℕ) (front : List Visit) (v : Visit) (behind : List Visit) → once h used front ≡ at_first_sot
      → is_in (ztlm h v.at) (numbers_of h front used) ≡ true → once h used (front ++ (v ∷ behind)) ≡ refused (refusal TlmNumberRepeated v.at)
  unfolding once numbers_of
  first_repeated used [] v behind none repeats = rw repeats
  first_repeated used (u ∷ front) v behind none repeats =
      by_bool (is_in (ztlm h u.at) used)
      (λ t. absurd (first_here (rw t at none)))
      (λ t. rw t (first_repeated (ztlm h u.at ∷ used) front v behind (rw t at none) repeats))

  -- ---- where none is, Ztlm rises

  -- no segment has this Ztlm
  Free : ℕ → List Visit → Type 0
  Free z [] = Unit {0}
  Free z (v ∷ vs) = (ztlm h v.at ≡ z → ⊥) × Free z vs

  once_free : (z : ℕ) (used : List ℕ) (vs : List Visit) → is_in z used ≡ true → once h used vs ≡ at_first_sot → Free z vs
  unfolding once is_in Free
  once_free z used [] there e = tt
  once_free z used (v ∷ vs) there e =
      by_bool (is_in (ztlm h v.at) used)
      (λ t. absurd (first_here (rw t at e)))
      (λ t. (
        λ same. not_both (sym t ∙ ap (λ (y : ℕ). is_in y used) same ∙ there),
        once_free z (ztlm h v.at ∷ used) vs (by_bool (eqb z (ztlm h v.at)) (λ q. rw q) (λ q. rw q there)) (rw t at e),
      ))
    where
      not_both : false ≡ true → ⊥
      not_both q = let n : ◌≡◌ {A = ℕ} 0 1 = cc in omega arith

  free_insert : (z : ℕ) (v : Visit) (vs : List Visit) → (ztlm h v.at ≡ z → ⊥) → Free z vs → Free z (insert h v vs)
  unfolding Free insert
  free_insert z v [] other f = (other, tt)
  free_insert z v (u ∷ vs) other f =
      by_bool (leb (ztlm h v.at) (ztlm h u.at))
      (λ e. rw e (other, f))
      (λ e. rw e (f.0, free_insert z v vs other f.1))

  free_ordered : (z : ℕ) (vs : List Visit) → Free z vs → Free z (ordered h vs)
  unfolding Free ordered
  free_ordered z [] f = tt
  free_ordered z (v ∷ vs) f = free_insert z v (ordered h vs) f.0 (free_ordered z vs f.1)

  rising_insert : (v : Visit) (vs : List Visit) → Free (ztlm h v.at) vs → Rising h vs → Rising h (insert h v vs)
  unfolding Free insert Rising
  rising_insert v [] f r = tt
  rising_insert v (u ∷ []) f r =
      by_bool (leb (ztlm h v.at) (ztlm h u.at))
      (λ e. let low = leb-true (ztlm h v.at) (ztlm h u.at) e in rw e (omega (arith, f.0), tt))
      (λ e. let high = leb-false (ztlm h v.at) (ztlm h u.at) e in rw e (high, tt))
  rising_insert v (u ∷ w ∷ vs) f r =
      by_bool (leb (ztlm h v.at) (ztlm h u.at))
      (λ e. let low = leb-true (ztlm h v.at) (ztlm h u.at) e in rw e (omega (arith, f.0), r))
      (λ e.
      let high = leb-false (ztlm h v.at) (ztlm h u.at) e in
      by_bool (leb (ztlm h v.at) (ztlm h w.at))
      (λ q. rw (e, q) (high, rw q at (rising_insert v (w ∷ vs) f.1 r.1)))
      (λ q. rw (e, q) (r.0, rw q at (rising_insert v (w ∷ vs) f.1 r.1))))

  once_rising : (used : List ℕ) (vs : List Visit) → once h used vs ≡ at_first_sot → Rising h (ordered h vs)
  unfolding once is_in ordered Rising
  once_rising used [] e = tt
  once_rising used (v ∷ vs) e =
      let z = ztlm h v.at in
      by_bool (is_in z used)
      (λ t. absurd (first_here (rw t at e)))
      (λ t.
      let more = rw t at e in
      rising_insert v (ordered h vs) (free_ordered z vs (once_free z (z ∷ used) vs (rw (eq-eqb z z refl)) more)) (once_rising (z ∷ used) vs more))

  -- with no 32: every segment stands in the order as often as in the header, and Ztlm rises, so that none stands there twice
  pub order_rises : (vs : List Visit) → once h [] vs ≡ at_first_sot → Rising h (ordered h vs)
  order_rises vs e = once_rising [] vs e
