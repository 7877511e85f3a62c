-- The walk's definitions, opened once: a law for each case; the walk goes forward inside the bytes, so the laws of a chain hold of it.
use Prim.Native.Nat.{ℕ, ◌+◌, ◌≤◌, ◌<◌}
use native.Mathlib.Omega.{arith}
use mathlib.Core.Path.{◌≡◌, refl, sym, ap, ◌∙◌}
use mathlib.Core.Bool.{true, false, not}
use mathlib.Core.List.{List, []}
use lib.ListN.{length}
use lib.Dec.{leb, eqb}
use borrow.Author.Tests.{eq-eqb, ne_eqb, leb-true, eqb-true, eqb-false}
use Rattle.std.specs.Prelude.{Option, Some, None, Result, Ok, Err, is_some, unwrap_or}
use Rattle.std.specs.Result.{result_unwrap_or}
use Rattle.numbers.specs.Bytes.{be}
use Rattle.types.specs.Markers.{TLM}
use Rattle.chain.specs.Chain.{end, on, Chain, Rises, Run, also}
use Rattle.chain.proofs.ChainLaws.{chain_end, chain_on, chain_run, chain_stops, end_on}
use Rattle.header.specs.Step.{delimits, is_filler, segment_end, step_at}
use Rattle.header.specs.Tlm.{ltlm, stlm, index_size, entry_count, Within, Accepted, tlm_at}
use Rattle.header.specs.Walk.{cut_at, plain, tlm_step, passed_at, walk_step_of, walk_step_at, next_at, WalkEnd, at_first_sot, refused, walk_move, walk_at, walk_from}
use Rattle.header.specs.declared.step.Marker.{Marker}
use Rattle.header.specs.declared.step.HeaderStep.{HeaderStep}
use Rattle.header.specs.declared.step.HeaderStep.TheVariants.{Sot, Delimiter, Segment, CutShort}
use Rattle.header.specs.declared.walk.Passed.{Passed as Passing}
use Rattle.types.specs.declared.Refusal.{Refusal}
use Rattle.numbers.proofs.Choice.{by_test}
use Rattle.header.proofs.StepLaws.{Told, step_told, says_filler, filler_said}

-- ---- what is passed

module _ (s : List ℕ) (at : ℕ) (m : Marker) where
  pub pass_other : (m.code ≡ TLM → ⊥) → passed_at s at m ≡ Ok (Some (plain m false))
  unfolding passed_at
  pass_other h = rw (ne_eqb _ _ h)

  pub pass_tlm : m.code ≡ TLM → passed_at s at m ≡ tlm_step m (tlm_at s at)
  unfolding passed_at
  pass_tlm e = rw (eq-eqb _ _ e)

  pub walk_segment : step_at s at ≡ Segment m → walk_step_at s at ≡ passed_at s at m
  unfolding walk_step_at walk_step_of
  walk_segment e = ap (walk_step_of s at) e

  pub walk_delimiter : step_at s at ≡ Delimiter m → walk_step_at s at ≡ Ok (Some (plain m (not m.high_ff)))
  unfolding walk_step_at walk_step_of
  walk_delimiter e = ap (walk_step_of s at) e

  -- a segment lies inside
  pub segment_within : step_at s at ≡ Segment m → Within s at
  segment_within e = let told : Told s at (Segment m) = rw e at (step_told s at) in record { marked = told.4; ends = omega arith }

pub walk_sot : (s : List ℕ) (at : ℕ) → step_at s at ≡ Sot → walk_step_at s at ≡ Ok None
unfolding walk_step_at walk_step_of
walk_sot s at e = ap (walk_step_of s at) e

pub walk_cut : (s : List ℕ) (at : ℕ) → step_at s at ≡ CutShort → walk_step_at s at ≡ Err (cut_at s at)
unfolding walk_step_at walk_step_of
walk_cut s at e = ap (walk_step_of s at) e

-- no delimiter has TLM's low byte
pub tlm_no_delimiter : delimits TLM ≡ false
unfolding delimits
tlm_no_delimiter = refl

-- ---- what a step that passes something says

-- a TLM segment that was passed
pub record TlmPassed (s : List ℕ) (at : ℕ) (p : Passing) (entries : ℕ) : Type 0 where
  pub marker : be 2 s at ≡ TLM
  pub accepted : Accepted s at
  pub count : entries ≡ entry_count s at
  pub whole : p.next ≡ segment_end s at

pub record PassedIs (s : List ℕ) (at : ℕ) (p : Passing) : Type 0 where
  pub past : at + 2 ≤ p.next
  pub inside : p.next ≤ length s
  pub code : p.code ≡ be 2 s at
  pub filler : p.is_filler ≡ is_filler (be 2 s at)
  pub plain : p.tlm ≡ None → be 2 s at ≡ TLM → ⊥
  pub tlm : (count : ℕ) → p.tlm ≡ Some count → TlmPassed s at p count

abbrev Tells : List ℕ → ℕ → Result (Option Passing) Refusal → Type 0
Tells s at (Ok (Some p)) = PassedIs s at p
Tells s at (Ok None) = Unit {0}
Tells s at (Err r) = Unit {0}

pub not_true_false : true ≡ false → ⊥
not_true_false e = let z : ◌≡◌ {A = ℕ} 0 1 = cc in omega arith

pub some_none : {n : ℕ} → Some n ≡ None → ⊥
some_none e = not_true_false (ap is_some e)

-- a test, as what was tested
pub by_is_some : {A : Type 0} (o : Option A) → is_some o ≡ true → (x : A) × (o ≡ Some x)
by_is_some (Some x) e = (x, refl)
by_is_some None e = absurd (not_true_false (sym e))

pub by_is_none : {A : Type 0} (o : Option A) → is_some o ≡ false → o ≡ None
by_is_none (Some x) e = absurd (not_true_false e)
by_is_none None e = refl

-- by whether a segment is TLM
pub by_count : {P : Type 0} (tlm : Option ℕ) → ((count : ℕ) → tlm ≡ Some count → P) → (tlm ≡ None → P) → P
by_count (Some count) is other = is count refl
by_count None is other = other refl

module _ (s : List ℕ) (at : ℕ) (m : Marker) (told : Told s at (Segment m)) (none : is_filler (be 2 s at) ≡ false) where
  code_is : m.code ≡ be 2 s at
  code_is = ap (λ (k : Marker). k.code) told.3

  two_past : at + 2 ≤ m.next
  unfolding segment_end
  two_past = omega (arith, told.2)

  tells_tlm : m.code ≡ TLM → Tells s at (tlm_step m (tlm_at s at))
  unfolding tlm_at tlm_step
  tells_tlm is =
      let P : Result ℕ Refusal → Type 0 = λ t. Tells s at (tlm_step m t) in
      by_test P (leb 4 (ltlm s at))
      (λ long. by_test P (eqb (index_size (stlm s at)) 3) (λ _. tt)
      (λ known. record {
        past = two_past;
        inside = told.1;
        code = code_is;
        filler = sym none;
        plain = λ e. absurd (some_none e);
        tlm = λ count e. record {
          marker = sym code_is ∙ is;
          accepted = record { ends = omega arith; long = leb-true 4 (ltlm s at) long; known = known_size (stlm s at) (eqb-false (index_size (stlm s at)) 3 known) };
          count = sym (ap (λ (tlm : Option ℕ). unwrap_or tlm 0) e);
          whole = told.2;
        };
      }))
      (λ _. tt)
    where
      known_size : (stlm : ℕ) → (index_size stlm ≡ 3 → ⊥) → index_size stlm < 3
      known_size stlm h = omega arith

  tells_segment : Tells s at (passed_at s at m)
  unfolding passed_at
  tells_segment =
      by_test (Tells s at) (eqb m.code TLM)
      (λ is. tells_tlm (eqb-true m.code TLM is))
      (λ other. record {
        past = two_past;
        inside = told.1;
        code = code_is;
        filler = sym none;
        plain = λ _ e. eqb-false m.code TLM other (code_is ∙ e);
        tlm = λ count e. absurd (some_none (sym e));
      })

tells_step : (s : List ℕ) (at : ℕ) (found : HeaderStep) → Told s at found → (at + 2 ≤ length s → is_filler (be 2 s at) ≡ says_filler found)
    → Tells s at (walk_step_of s at found)
unfolding walk_step_of
tells_step s at Sot told said = tt
tells_step s at (Delimiter m) told said =
    record {
      past = omega (arith, told.2);
      inside = told.1;
      code = ap (λ (k : Marker). k.code) told.3;
      filler = sym (said (omega arith));
      plain = λ _ is. not_true_false (sym told.4 ∙ ap delimits is ∙ tlm_no_delimiter);
      tlm = λ count e. absurd (some_none (sym e));
    }
tells_step s at (Segment m) told said = tells_segment s at m told (said (omega arith))
tells_step s at CutShort told said = tt

tells : (s : List ℕ) (at : ℕ) → Tells s at (walk_step_at s at)
unfolding walk_step_at
tells s at = tells_step s at (step_at s at) (step_told s at) (filler_said s at)

pub passed_is : (s : List ℕ) (at : ℕ) (p : Passing) → walk_step_at s at ≡ Ok (Some p) → PassedIs s at p
passed_is s at p e = rw e at (tells s at)

-- ---- the walk, by what the step finds

moved : (s : List ℕ) (at next : ℕ) (found : Result (Option Passing) Refusal) → Tells s at found → walk_move found ≡ on next → (at < next) × (at < length s)
unfolding walk_move
moved s at next (Ok (Some p)) told e = let h : p.next ≡ next = cc in let a = told.past in let b = told.inside in (omega arith, omega arith)
moved s at next (Ok None) told e = absurd (end_on e)
moved s at next (Err r) told e = absurd (end_on e)

pub walk_rises : (s : List ℕ) → Rises (walk_at s) (length s)
unfolding walk_at
walk_rises s at next e = moved s at next (walk_step_at s at) (tells s at) e

-- its visits are a run to where it stopped, and there its step ends as it does
pub walk_run : (s : List ℕ) (at : ℕ) → Run (walk_at s) at (walk_from s at).visits (walk_from s at).stopped
unfolding walk_from
walk_run s at = chain_run at_first_sot (walk_at s) (length s) (walk_rises s) at

pub walk_stops : (s : List ℕ) (at : ℕ) → walk_at s (walk_from s at).stopped ≡ end (walk_from s at).ended
unfolding walk_from
walk_stops s at = chain_stops at_first_sot (walk_at s) (length s) (walk_rises s) at

pub walk_moves : (s : List ℕ) (at next : ℕ) → walk_at s at ≡ on next → walk_from s at ≡ also (record { at = at; next = next }) (walk_from s next)
unfolding walk_from
walk_moves s at next e = chain_on at_first_sot (walk_at s) (length s) (walk_rises s) at next e

pub walk_on : (s : List ℕ) (at : ℕ) (p : Passing) → walk_step_at s at ≡ Ok (Some p)
    → walk_from s at ≡ also (record { at = at; next = p.next }) (walk_from s p.next)
unfolding walk_at walk_move
walk_on s at p e = walk_moves s at p.next (ap walk_move e)

pub walk_found : (s : List ℕ) (at : ℕ) → walk_step_at s at ≡ Ok None → walk_from s at ≡ record { visits = []; stopped = at; ended = at_first_sot }
unfolding walk_from walk_at walk_move
walk_found s at e = chain_end at_first_sot (walk_at s) (length s) (walk_rises s) at at_first_sot (ap walk_move e)

pub walk_refused : (s : List ℕ) (at : ℕ) (r : Refusal) → walk_step_at s at ≡ Err r → walk_from s at ≡ record { visits = []; stopped = at; ended = refused r }
unfolding walk_from walk_at walk_move
walk_refused s at r e = chain_end at_first_sot (walk_at s) (length s) (walk_rises s) at (refused r) (ap walk_move e)

-- where a step passes nothing the walk ends
pub walk_else : (s : List ℕ) (at : ℕ) (found : Result (Option Passing) Refusal) → found ≡ walk_step_at s at → ((p : Passing) → found ≡ Ok (Some p) → ⊥)
    → (walk_from s at).visits ≡ []
walk_else s at (Ok (Some p)) e none = absurd (none p refl)
walk_else s at (Ok None) e none = ap (λ (c : Chain WalkEnd). c.visits) (walk_found s at (sym e))
walk_else s at (Err r) e none = ap (λ (c : Chain WalkEnd). c.visits) (walk_refused s at r (sym e))

-- a step that passes nothing and refuses nothing found an SOT
pub sot_else : (found : Result (Option Passing) Refusal) → ((p : Passing) → found ≡ Ok (Some p) → ⊥) → ((r : Refusal) → found ≡ Err r → ⊥) → found ≡ Ok None
sot_else (Ok (Some p)) passed refusal = absurd (passed p refl)
sot_else (Ok None) passed refusal = refl
sot_else (Err r) passed refusal = absurd (refusal r refl)

-- the same as next_at has it, and what it passes is the step's
pub next_none : (s : List ℕ) (at : ℕ) → next_at s at ≡ None → (walk_from s at).visits ≡ []
unfolding next_at
next_none s at n = by (walk_step_at s at) refl n
  where
    by : (found : Result (Option Passing) Refusal) → walk_step_at s at ≡ found → result_unwrap_or found None ≡ None → (walk_from s at).visits ≡ []
    by (Ok None) e n = ap (λ (c : Chain WalkEnd). c.visits) (walk_found s at e)
    by (Ok (Some p)) e n = absurd (not_true_false (ap is_some n))
    by (Err r) e n = ap (λ (c : Chain WalkEnd). c.visits) (walk_refused s at r e)

pub next_some : (s : List ℕ) (at : ℕ) (p : Passing) → next_at s at ≡ Some p → walk_step_at s at ≡ Ok (Some p)
unfolding next_at
next_some s at p n = by (walk_step_at s at) n
  where
    by : (found : Result (Option Passing) Refusal) → result_unwrap_or found None ≡ Some p → found ≡ Ok (Some p)
    by (Ok q) n = ap Ok n
    by (Err r) n = absurd (not_true_false (sym (ap is_some n)))

-- a move is something passed
pub on_passed : (s : List ℕ) (at next : ℕ) → walk_at s at ≡ on next → (p : Passing) × (walk_step_at s at ≡ Ok (Some p)) × (p.next ≡ next)
unfolding walk_at walk_move
on_passed s at next e = by (walk_step_at s at) refl
  where
    by : (found : Result (Option Passing) Refusal) → walk_step_at s at ≡ found → (p : Passing) × (walk_step_at s at ≡ Ok (Some p)) × (p.next ≡ next)
    by (Ok (Some p)) f = (p, f, let h : on p.next ≡ on next = sym (ap walk_move f) ∙ e in (cc))
    by (Ok None) f = absurd (end_on (sym (ap walk_move f) ∙ e))
    by (Err r) f = absurd (end_on (sym (ap walk_move f) ∙ e))
