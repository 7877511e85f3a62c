-- The extent of a prefix: the first SOT of the whole where the prefix holds its marker, and otherwise Truncated. A step that is not cut short is the same
-- with more bytes behind; and one that goes on is the same with fewer, where two bytes are left behind it.
use Prim.Native.Nat.{ℕ, ◌+◌, ◌≤◌, ◌<◌}
use native.Mathlib.Omega.{arith}
use mathlib.Core.Path.{◌≡◌, refl, sym, ap, ◌∙◌}
use mathlib.Core.Bool.{true}
use mathlib.Core.List.{List, ◌++◌}
use lib.ListN.{length, take, drop, length-append, length-take, take-append-drop}
use lib.Dec.{leb, eqb}
use borrow.Author.Tests.{leb-true, leb-false, eqb-true}
use Rattle.std.specs.Prelude.{Option, Some, None}
use Rattle.numbers.specs.Bytes.{be}
use Rattle.numbers.proofs.BytesLaws.{be_front}
use Rattle.numbers.proofs.Choice.{by_test, by_bool}
use Rattle.types.specs.Markers.{SOC, SOT}
use Rattle.types.specs.declared.CodestreamOffset.{CodestreamOffset}
use Rattle.chain.specs.Chain.{end, on, Visit, Run}
use Rattle.chain.proofs.ChainLaws.{end_on, chain_run, chain_stops, run_chain, run_rises, run_until, run_also}
use Rattle.header.specs.Step.{delimits, segment_end, passing, step_at, HeaderEnd, sot, cut, move_of, move_at, steps_from}
use Rattle.header.specs.Extent.{ended_as, extent_end, extent_of, told_by}
use Rattle.header.specs.declared.step.HeaderStep.{HeaderStep}
use Rattle.header.specs.declared.step.HeaderStep.TheVariants.{Sot, Delimiter, Segment, CutShort}
use Rattle.header.proofs.StepLaws.{Told, step_told, step_sot, step_delimiter, step_segment, sot_no_delimiter}
use Rattle.header.proofs.ExtentLaws.{rises, extent_steps}
use Rattle.header.proofs.WalkLaws.{not_true_false}

-- ---- what Complete says

-- the steps from 2 reach a first SOT, behind SOC
pub record Reached (s : List ℕ) (at : ℕ) : Type 0 where
  pub soc : be 2 s 0 ≡ SOC
  pub visits : List Visit
  pub run : Run (move_at s) 2 visits at
  pub inside : at + 2 ≤ length s
  pub sot : be 2 s at ≡ SOT

pub reached_four : {s : List ℕ} {at : ℕ} → Reached s at → 4 ≤ length s
reached_four r = omega (arith, run_rises r.run, r.inside)

sot_ends : (s : List ℕ) (at : ℕ) → at + 2 ≤ length s → be 2 s at ≡ SOT → move_at s at ≡ end sot
unfolding move_at move_of
sot_ends s at inside e = ap move_of (step_sot s at inside e)

ends_sot : (s : List ℕ) (at : ℕ) → move_at s at ≡ end sot → (at + 2 ≤ length s) × (be 2 s at ≡ SOT)
unfolding move_at move_of
ends_sot s at e = by (step_at s at) (step_told s at) e
  where
    by : (found : HeaderStep) → Told s at found → move_of found ≡ end sot → (at + 2 ≤ length s) × (be 2 s at ≡ SOT)
    by Sot told e = told
    by (Delimiter m) told e = absurd (end_on (sym e))
    by (Segment m) told e = absurd (end_on (sym e))
    by CutShort told e = absurd (let z : ◌≡◌ {A = ℕ} 0 1 = cc in omega arith)

module _ (s : List ℕ) where
  pub reached_complete : {at : ℕ} → Reached s at → extent_of s ≡ Some (record { 0 = at })
  unfolding extent_end ended_as steps_from
  reached_complete r =
      extent_steps s (reached_four r) r.soc ∙ ap extent_end (run_chain cut (move_at s) (length s) (rises s) sot r.run (sot_ends s _ r.inside r.sot))

  abbrev Says : Option CodestreamOffset → Type 0
  Says (Some at) = Reached s at.0
  Says None = Unit {0}

  says : Says (extent_of s)
  unfolding extent_of extent_end ended_as steps_from
  says =
      by_test Says (leb 4 (length s))
      (λ _. by_test Says (eqb (be 2 s 0) SOC)
      (λ soc. by (eqb-true (be 2 s 0) SOC soc) (steps_from s 2).ended (chain_stops cut (move_at s) (length s) (rises s) 2))
      (λ _. tt))
      (λ _. tt)
    where
      by : be 2 s 0 ≡ SOC → (ended : HeaderEnd) → move_at s (steps_from s 2).stopped ≡ end ended → Says (ended_as ended (steps_from s 2).stopped)
      by soc sot e =
          let there = ends_sot s (steps_from s 2).stopped e in
          record { soc = soc; visits = (steps_from s 2).visits; run = chain_run cut (move_at s) (length s) (rises s) 2; inside = there.0; sot = there.1 }
      by soc cut e = tt

  pub complete_reached : (at : CodestreamOffset) → extent_of s ≡ Some at → Reached s at.0
  complete_reached at e = rw e at says

-- ---- a step in a prefix

module _ (q t : List ℕ) where
  pub longer : length q ≤ length (q ++ t)
  longer = rw length-append (omega arith)

  module _ (at : ℕ) where
    -- what is told of a prefix is so of the whole
    told_more : (found : HeaderStep) → Told q at found → (found ≡ CutShort → ⊥) → step_at (q ++ t) at ≡ found
    unfolding segment_end
    told_more Sot told whole = let l = longer in step_sot (q ++ t) at (omega arith) (be_front 2 q t at told.0 ∙ told.1)
    told_more (Delimiter m) told whole =
        let l = longer in
        let same = be_front 2 q t at (omega arith) in
        let there : at + 2 ≡ m.next = sym told.2 in
        step_delimiter (q ++ t) at (omega arith) (λ e. not_true_false (sym told.4 ∙ ap delimits (sym same ∙ e) ∙ sot_no_delimiter)) (ap delimits same ∙ told.4)
        ∙ (λ i. Delimiter (passing (same i) (there i)))
        ∙ ap Delimiter (sym told.3)
    told_more (Segment m) told whole =
        let l = longer in
        let same = be_front 2 q t at (omega (arith, told.4)) in
        let long : segment_end (q ++ t) at ≡ m.next = ap (λ (k : ℕ). at + (2 + k)) (be_front 2 q t (at + 2) (omega (arith, told.4))) ∙ sym told.2 in
        step_segment (q ++ t) at (omega (arith, told.4)) (λ e. told.5 (sym same ∙ e)) (ap delimits same ∙ told.6) (omega (arith, told.4)) (omega (arith, long))
        ∙ (λ i. Segment (passing (same i) (long i)))
        ∙ ap Segment (sym told.3)
    told_more CutShort told whole = absurd (whole refl)

    pub step_more : (step_at q at ≡ CutShort → ⊥) → step_at (q ++ t) at ≡ step_at q at
    step_more whole = told_more (step_at q at) (step_told q at) whole

    move_more : (next : ℕ) → move_at q at ≡ on next → move_at (q ++ t) at ≡ on next
    unfolding move_at move_of
    move_more next e = ap move_of (step_more (λ c. end_on (sym (ap move_of c) ∙ e))) ∙ e

    -- with two bytes behind it, so that a length field is held
    move_less : (next : ℕ) → next + 2 ≤ length q → move_at (q ++ t) at ≡ on next → move_at q at ≡ on next
    unfolding move_at move_of segment_end
    move_less next inside e = by (step_at (q ++ t) at) (step_told (q ++ t) at) e
      where
        by : (found : HeaderStep) → Told (q ++ t) at found → move_of found ≡ on next → move_at q at ≡ on next
        by Sot told e = absurd (end_on e)
        by (Delimiter m) told e =
            let here : m.next ≡ next = cc in
            let same = be_front 2 q t at (omega (arith, told.2)) in
            let d : delimits (be 2 q at) ≡ true = ap delimits (sym same) ∙ told.4 in
            ap move_of (step_delimiter q at (omega (arith, told.2)) (λ e. not_true_false (sym d ∙ ap delimits e ∙ sot_no_delimiter)) d)
            ∙ ap (λ (k : ℕ). on k) (sym told.2 ∙ here)
        by (Segment m) told e =
            let here : m.next ≡ next = cc in
            let four : at + 4 ≤ length q = omega (arith, told.2) in
            let same = be_front 2 q t at (omega arith) in
            let long : segment_end q at ≡ next = ap (λ (k : ℕ). at + (2 + k)) (sym (be_front 2 q t (at + 2) (omega arith))) ∙ sym told.2 ∙ here in
            ap move_of
            (step_segment q at (omega arith) (λ e. told.5 (same ∙ e)) (ap delimits (sym same) ∙ told.6) four (omega (arith, long)))
            ∙ ap (λ (k : ℕ). on k) long
        by CutShort told e = absurd (end_on e)

  -- ---- the first SOT of a prefix, and in a prefix

  reached_more : {at : ℕ} → Reached q at → Reached (q ++ t) at
  reached_more r =
      let l = longer in
      let inside = r.inside in
      record {
        soc = be_front 2 q t 0 (omega (arith, reached_four r)) ∙ r.soc;
        visits = r.visits;
        run = run_also (λ at next. move_more at next) r.run;
        inside = omega arith;
        sot = be_front 2 q t _ inside ∙ r.sot;
      }

  reached_less : {at : ℕ} → Reached (q ++ t) at → at + 2 ≤ length q → Reached q at
  reached_less r inside =
      let past = run_rises r.run in
      record {
        soc = sym (be_front 2 q t 0 (omega arith)) ∙ r.soc;
        visits = r.visits;
        run = run_until (λ at next l. move_less at next (omega arith)) r.run;
        inside = inside;
        sot = sym (be_front 2 q t _ inside) ∙ r.sot;
      }

-- ---- the law

complete_same : {a b : CodestreamOffset} → Some a ≡ Some b → a ≡ b
complete_same e = cc

-- a first SOT stays with more bytes behind it
pub extent_more : (q t : List ℕ) (at : CodestreamOffset) → extent_of q ≡ Some at → extent_of (q ++ t) ≡ Some at
extent_more q t at e = reached_complete (q ++ t) (reached_more q t (complete_reached q at e))

module _ (s : List ℕ) (n : ℕ) where
  -- a first SOT of the prefix is the whole's, and its marker is among the n bytes
  prefix_told : (at : CodestreamOffset) → extent_of (take n s) ≡ Some at → (extent_of s ≡ Some at) × (at.0 + 2 ≤ n)
  prefix_told at e =
      (ap extent_of (sym (take-append-drop n s)) ∙ extent_more (take n s) (drop n s) at e, omega (arith, (complete_reached (take n s) at e).inside, length-take n s))

  -- the other way round
  pub extent_less : (at : CodestreamOffset) → extent_of s ≡ Some at → at.0 + 2 ≤ n → extent_of (take n s) ≡ Some at
  extent_less at e h =
      let r = complete_reached (take n s ++ drop n s) at (ap extent_of (take-append-drop n s) ∙ e) in
      let whole = (complete_reached s at e).inside in
      reached_complete (take n s) (reached_less (take n s) (drop n s) r (omega (arith, whole, length-take n s)))

  by_extents : (whole part : Option CodestreamOffset) → extent_of s ≡ whole → extent_of (take n s) ≡ part → extent_of (take n s) ≡ told_by n whole
  unfolding told_by
  by_extents (Some at) part e k =
      by_bool (leb (at.0 + 2) n)
      (λ h. rw h (extent_less at e (leb-true (at.0 + 2) n h)))
      (λ h. rw h (k ∙ short part k (leb-false (at.0 + 2) n h)))
    where
      short : (part : Option CodestreamOffset) → extent_of (take n s) ≡ part → n < at.0 + 2 → part ≡ None
      short (Some b) k h = let told = prefix_told b k in let same : b ≡ at = complete_same (sym told.0 ∙ e) in absurd (omega (arith, told.1, ap (λ (a : CodestreamOffset). a.0) same))
      short None k h = refl
  by_extents None (Some b) e k = absurd (let told = sym (prefix_told b k).0 ∙ e in let z : ◌≡◌ {A = ℕ} 0 1 = cc in omega arith)
  by_extents None None e k = k

  -- the extent of each prefix, by the whole's
  pub extent_prefix : extent_of (take n s) ≡ told_by n (extent_of s)
  extent_prefix = by_extents (extent_of s) (extent_of (take n s)) refl refl
