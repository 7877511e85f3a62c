-- The walk over a prefix that holds the first SOT is the walk over the whole: the same visits, stopped at the same place, with the same end, a refusal of
-- 4 or 5 included. And a walk that ends at the first SOT is one that the extent tells.
use Prim.Native.Nat.{ℕ, ◌+◌, ◌≤◌}
use native.Mathlib.Omega.{arith}
use mathlib.Core.Path.{◌≡◌, refl, sym, ap, ◌∙◌}
use mathlib.Core.Bool.{false, cond}
use mathlib.Core.List.{List, ◌++◌}
use lib.ListN.{length, get_or-append}
use lib.Dec.{leb, eqb}
use borrow.Author.Tests.{leb-true}
use Rattle.std.specs.Prelude.{Option, Some, None, Result, Ok}
use Rattle.types.specs.declared.CodestreamOffset.{CodestreamOffset}
use Rattle.numbers.specs.Bytes.{be}
use Rattle.numbers.proofs.BytesLaws.{be_front}
use Rattle.numbers.proofs.Choice.{by_bool}
use Rattle.types.specs.Markers.{SOC, TLM}
use Rattle.chain.specs.Chain.{end, on}
use Rattle.chain.proofs.ChainLaws.{end_on, run_chain, run_also}
use Rattle.header.specs.Step.{segment_end, step_at, cut, move_of, move_at, steps_from}
use Rattle.header.specs.Extent.{ended_as, extent_end, extent_of}
use Rattle.header.specs.Tlm.{ltlm, stlm, entry_count, Within, tlm_at}
use Rattle.header.specs.Walk.{plain, tlm_step, passed_at, walk_step_of, walk_step_at, at_first_sot, walk_move, walk_at, walk_from}
use Rattle.header.specs.declared.step.HeaderStep.{HeaderStep}
use Rattle.header.specs.declared.step.HeaderStep.TheVariants.{Sot, Delimiter, Segment, CutShort}
use Rattle.header.proofs.StepLaws.{Told, step_told}
use Rattle.header.proofs.ExtentLaws.{rises, extent_steps}
use Rattle.header.proofs.WalkLaws.{walk_rises, walk_cut, walk_run, walk_stops}
use Rattle.header.proofs.WalkItems.{passed_to, ends_there}
use Rattle.header.proofs.ExtentPrefix.{Reached, reached_four, reached_complete, step_more}
use Rattle.types.specs.declared.Refusal.{Refusal}

-- ---- the walk goes where the steps go

walk_steps : (s : List ℕ) (at next : ℕ) → walk_at s at ≡ on next → move_at s at ≡ on next
unfolding walk_at walk_step_at walk_step_of walk_move move_at move_of
walk_steps s at next e = by (step_at s at) e
  where
    by : (found : HeaderStep) → walk_move (walk_step_of s at found) ≡ on next → move_of found ≡ on next
    by Sot e = absurd (end_on e)
    by (Delimiter m) e = let here : m.next ≡ next = cc in ap (λ (k : ℕ). on k) here
    by (Segment m) e = ap (λ (k : ℕ). on k) (passed_to s at m next e)
    by CutShort e = absurd (end_on e)

-- an accepted walk stops where the extent says
pub accepted_reached : (s : List ℕ) → be 2 s 0 ≡ SOC → (walk_from s 2).ended ≡ at_first_sot → Reached s (walk_from s 2).stopped
accepted_reached s soc e =
    let there = ends_there s (walk_from s 2).stopped (walk_stops s 2 ∙ ap end e) in
    record {
      soc = soc;
      visits = (walk_from s 2).visits;
      run = run_also (λ at next. walk_steps s at next) (walk_run s 2);
      inside = there.0;
      sot = there.1;
    }

-- ---- a step of the walk in a prefix

module _ (q t : List ℕ) where
  module _ (at : ℕ) where
    module _ (w : Within q at) where
      ltlm_more : ltlm (q ++ t) at ≡ ltlm q at
      ltlm_more = be_front 2 q t (at + 2) (omega (arith, w.marked))

      -- Stlm lies inside where Ltlm is 4 or more
      pub stlm_more : 4 ≤ ltlm q at → stlm (q ++ t) at ≡ stlm q at
      unfolding segment_end
      stlm_more long = get_or-append q t 0 _ (omega (arith, w.ends))

      pub count_more : 4 ≤ ltlm q at → entry_count (q ++ t) at ≡ entry_count q at
      unfolding entry_count
      count_more long = rw (ltlm_more, stlm_more long)

      tlm_more : tlm_at (q ++ t) at ≡ tlm_at q at
      unfolding tlm_at
      tlm_more =
          by_bool (leb 4 (ltlm q at))
          (λ e. let long = leb-true 4 (ltlm q at) e in rw (ltlm_more, e, stlm_more long, count_more long))
          (λ e. rw (ltlm_more, e))

    walk_step_of_lem : (found : HeaderStep) → Told q at found → (found ≡ CutShort → ⊥) → walk_step_of (q ++ t) at found ≡ walk_step_of q at found
    unfolding walk_step_of passed_at
    walk_step_of_lem Sot told whole = refl
    walk_step_of_lem (Delimiter m) told whole = refl
    walk_step_of_lem (Segment m) told whole =
        ap (λ (found : Result ℕ Refusal). cond (eqb m.code TLM) (tlm_step m found) (Ok (Some (plain m false))))
        (tlm_more (record { marked = told.4; ends = omega (arith, told.2) }))
    walk_step_of_lem CutShort told whole = absurd (whole refl)

    walk_more : (step_at q at ≡ CutShort → ⊥) → walk_at (q ++ t) at ≡ walk_at q at
    unfolding walk_at walk_step_at
    walk_more whole = ap walk_move (ap (walk_step_of (q ++ t) at) (step_more q t at whole) ∙ walk_step_of_lem (step_at q at) (step_told q at) whole)

    walk_on_more : (next : ℕ) → walk_at q at ≡ on next → walk_at (q ++ t) at ≡ on next
    unfolding walk_at walk_move
    walk_on_more next e = walk_more (λ c. end_on (sym (ap walk_move (walk_cut q at c)) ∙ e)) ∙ e

  -- ---- the whole walk

  module _ {at : ℕ} (r : Reached q at) where
    -- nowhere is it cut short
    stopped_whole : step_at q (walk_from q 2).stopped ≡ CutShort → ⊥
    unfolding steps_from extent_end ended_as move_at move_of
    stopped_whole c =
        let run = run_also (λ at next. walk_steps q at next) (walk_run q 2) in
        let none : extent_of q ≡ None = extent_steps q (reached_four r) r.soc ∙ ap extent_end (run_chain cut (move_at q) (length q) (rises q) cut run (ap move_of c)) in
        let e : ◌≡◌ {A = Option CodestreamOffset} (Some (record { 0 = at })) None = sym (reached_complete q r) ∙ none in
        let z : ◌≡◌ {A = ℕ} 0 1 = cc in
        omega arith

    pub walk_prefix : walk_from (q ++ t) 2 ≡ walk_from q 2
    unfolding walk_from
    walk_prefix =
        run_chain at_first_sot (walk_at (q ++ t)) (length (q ++ t)) (walk_rises (q ++ t)) (walk_from q 2).ended
        (run_also (λ at next. walk_on_more at next) (walk_run q 2))
        (walk_more (walk_from q 2).stopped stopped_whole ∙ walk_stops q 2)
