-- The walk that notes where the segment of each Ztlm stands: what is noted so far, with what lies ahead, is what the whole header has. Once a Ztlm is used
-- again nothing is said of the notes any more, and the answer is settled unless the walk is refused.
use Prim.Native.Nat.{ℕ, ◌≤◌, ◌<◌}
use native.Mathlib.Omega.{arith}
use mathlib.Core.Path.{◌≡◌, refl, sym, ap, ◌∙◌}
use mathlib.Core.Bool.{true, false, not}
use mathlib.Core.List.{List, [], ◌∷◌}
use lib.ListN.{length, get_or, set, length-set, replicate, get_or-replicate}
use lib.Seq.{get_or-set_same, get_or-set_other}
use lib.Dec.{eqb}
use borrow.Author.Tests.{eq-eqb, ne_eqb, eqb-true, eqb-false}
use Rattle.std.specs.Prelude.{Option, Some, None, Ok, Err}
use Rattle.numbers.specs.Bytes.{be}
use Rattle.numbers.proofs.Choice.{by_bool}
use Rattle.types.specs.Markers.{TLM}
use Rattle.types.specs.Refusals.{refusal}
use Rattle.types.specs.declared.Refusal.{Refusal}
use Rattle.chain.specs.Chain.{Visit, Chain}
use Rattle.header.specs.Tlm.{ztlm, Accepted}
use Rattle.header.specs.Walk.{WalkEnd, at_first_sot, refused, walk_step_at, walk_from}
use Rattle.header.specs.Strip.{is_tlm}
use Rattle.header.specs.declared.walk.Passed.{Passed as Passing}
use Rattle.header.proofs.WalkLaws.{passed_is, some_none, walk_found, walk_refused}
use Rattle.header.proofs.WalkVisited.{visits_on, stopped_on, ended_on}
use Rattle.lengths.specs.Segments.{tlms_in, is_in, once, before}
use Rattle.lengths.specs.Places.{having, Notes, none, one, Blank, Noted, found_as, found}
use Rattle.lengths.proofs.SegmentsOrder.{having_here, having_other}
use Rattle.types.specs.declared.Reason.TheVariants.{TlmNumberRepeated}

-- the segments from a position on
abbrev pub ahead : List ℕ → ℕ → List Visit
ahead h at = tlms_in h (walk_from h at).visits

module _ (h : List ℕ) (at : ℕ) (p : Passing) (passed : walk_step_at h at ≡ Ok (Some p)) where
  pub ahead_plain : p.tlm ≡ None → ahead h at ≡ ahead h p.next
  unfolding tlms_in
  ahead_plain plain = ap (tlms_in h) (visits_on h at p passed) ∙ rw (ne_eqb _ _ ((passed_is h at p passed).plain plain))

  pub ahead_tlm : {count : ℕ} → p.tlm ≡ Some count → ahead h at ≡ record { at = at; next = p.next } ∷ ahead h p.next
  unfolding tlms_in
  ahead_tlm is = ap (tlms_in h) (visits_on h at p passed) ∙ rw (eq-eqb _ _ ((passed_is h at p passed).tlm _ is).marker)

module _ (h used : List ℕ) (v : Visit) (rest : List Visit) where
  pub once_again : is_in (ztlm h v.at) used ≡ true → once h used (v ∷ rest) ≡ refused (refusal TlmNumberRepeated v.at)
  unfolding once
  once_again e = rw e

  pub once_new : is_in (ztlm h v.at) used ≡ false → once h used (v ∷ rest) ≡ once h (ztlm h v.at ∷ used) rest
  unfolding once
  once_new e = rw e

is_in_first : (z : ℕ) (used : List ℕ) → is_in z (z ∷ used) ≡ true
unfolding is_in
is_in_first z used = rw (eq-eqb z z refl)

is_in_later : (z y : ℕ) (used : List ℕ) → (z ≡ y → ⊥) → is_in z (y ∷ used) ≡ is_in z used
unfolding is_in
is_in_later z y used n = rw (ne_eqb z y n)

-- ---- what is noted so far

-- of a Ztlm: nothing, and all its segments lie ahead; or the first of them
data Ahead (h : List ℕ) (place : ℕ) (all rest : List Visit) : Type 0 where
  later : place ≡ 0 → all ≡ rest → Ahead h place all rest
  met : (v : Visit) → place ≡ v.at → 0 < v.at → all ≡ v ∷ rest → is_tlm h v ≡ true → Accepted h v.at → Ahead h place all rest

-- where the walk stands, from which it ends as from its start
pub record Walking (h : List ℕ) (at : ℕ) : Type 0 where
  begun : 2 ≤ at
  pub inside : at ≤ length h
  stops : (walk_from h 2).stopped ≡ (walk_from h at).stopped
  ends : (walk_from h 2).ended ≡ (walk_from h at).ended

walking_on : (h : List ℕ) (at : ℕ) → Walking h at → (p : Passing) → walk_step_at h at ≡ Ok (Some p) → Walking h p.next
walking_on h at w p passed =
    let told = passed_is h at p passed in
    record {
      begun = omega (arith, w.begun, told.past);
      inside = told.inside;
      stops = w.stops ∙ stopped_on h at p passed;
      ends = w.ends ∙ ended_on h at p passed;
    }

-- the segment that repeats a Ztlm, or what is told of those ahead
abbrev told : Option ℕ → WalkEnd → WalkEnd
told None ahead = ahead
told (Some again) ahead = refused (refusal TlmNumberRepeated again)

pub record Finding (h : List ℕ) (places : List ℕ) (at : ℕ) (again : Option ℕ) : Type 0 where
  pub walking : Walking h at
  sized : length places ≡ 256
  used : List ℕ
  marks : (z : ℕ) → z < 256 → is_in z used ≡ not (eqb (get_or places z 0) 0)
  repeats : once h [] (ahead h 2) ≡ told again (once h used (ahead h at))
  notes : again ≡ None → (z : ℕ) → z < 256 → Ahead h (get_or places z 0) (having h z (ahead h 2)) (having h z (ahead h at))

pub blank_256 : Blank (replicate 256 0)
blank_256 = record { sized = refl; empty = λ z small. get_or-replicate 256 z 0 0 small }

pub finding_start : (h : List ℕ) (places : List ℕ) → 2 ≤ length h → Blank places → Finding h places 2 None
unfolding is_in
finding_start h places inside blank =
    record {
      walking = record { begun = omega arith; inside = inside; stops = refl; ends = refl };
      sized = blank.sized;
      used = [];
      marks = λ z small. rw (blank.empty z small);
      repeats = refl;
      notes = λ _ z small. later (blank.empty z small) refl;
    }

-- where the first note of a Ztlm is 0, all its segments lie ahead
all_ahead : {h : List ℕ} {all rest : List Visit} {place : ℕ} → place ≡ 0 → Ahead h place all rest → all ≡ rest
all_ahead zero (later z e) = e
all_ahead zero (met v is some e tlm accepted) = absurd (omega arith)

with_rest : {h : List ℕ} {place : ℕ} {all rest other : List Visit} → rest ≡ other → Ahead h place all rest → Ahead h place all other
with_rest same (later z e) = later z (e ∙ same)
with_rest same (met v is some e tlm accepted) = met v is some (e ∙ ap (λ (l : List Visit). v ∷ l) same) tlm accepted

module _ (h : List ℕ) (places : List ℕ) (at : ℕ) (again : Option ℕ) (f : Finding h places at again) (p : Passing) (passed : walk_step_at h at ≡ Ok (Some p)) where
  -- another marker
  pub finding_plain : p.tlm ≡ None → Finding h places p.next again
  finding_plain plain =
      let same = ahead_plain h at p passed plain in
      record {
        walking = walking_on h at f.walking p passed;
        sized = f.sized;
        used = f.used;
        marks = f.marks;
        repeats = f.repeats ∙ ap (λ (l : List Visit). told again (once h f.used l)) same;
        notes = λ first z small. with_rest (ap (having h z) same) (f.notes first z small);
      }

  module _ {count : ℕ} (is : p.tlm ≡ Some count) (z₀ : ℕ) (number : z₀ ≡ ztlm h at) (small₀ : z₀ < 256) where
    here : Visit
    here = record { at = at; next = p.next }

    more : ahead h at ≡ here ∷ ahead h p.next
    unfolding here
    more = ahead_tlm h at p passed is

    -- its Ztlm was not used before
    pub finding_first : get_or places z₀ 0 ≡ 0 → Finding h (set places z₀ at) p.next again
    unfolding here
    finding_first empty =
        let passed_tlm = (passed_is h at p passed).tlm count is in
        let long = f.sized in
        let unused : is_in z₀ f.used ≡ false = f.marks z₀ small₀ ∙ ap not (eq-eqb (get_or places z₀ 0) 0 empty) in
        let new : once h f.used (ahead h at) ≡ once h (z₀ ∷ f.used) (ahead h p.next) =
        ap (once h f.used) more
        ∙ once_new h f.used here (ahead h p.next) (ap (λ (z : ℕ). is_in z f.used) (sym number) ∙ unused)
        ∙ ap (λ (z : ℕ). once h (z ∷ f.used) (ahead h p.next)) (sym number) in
        let noted : get_or (set places z₀ at) z₀ 0 ≡ at = get_or-set_same places z₀ at 0 (omega arith) in
        record {
          walking = walking_on h at f.walking p passed;
          sized = length-set places z₀ at ∙ f.sized;
          used = z₀ ∷ f.used;
          marks = λ z small.
              by_bool (eqb z z₀)
              (λ e. let same = eqb-true z z₀ e in
              let begun = f.walking.begun in
              ap (λ (y : ℕ). is_in y (z₀ ∷ f.used)) same ∙ is_in_first z₀ f.used
              ∙ sym (ap (λ (y : ℕ). not (eqb (get_or (set places z₀ at) y 0) 0)) same ∙ ap not (ne_eqb (get_or (set places z₀ at) z₀ 0) 0 (λ e. omega arith))))
              (λ e. let other = eqb-false z z₀ e in
              is_in_later z z₀ f.used other ∙ f.marks z small ∙ ap (λ (n : ℕ). not (eqb n 0)) (sym (get_or-set_other places z₀ z at 0 other)));
          repeats = f.repeats ∙ ap (told again) new;
          notes = λ first z small.
              by_bool (eqb z z₀)
              (λ e. let same = eqb-true z z₀ e in
              let begun = f.walking.begun in
              met here (ap (λ (y : ℕ). get_or (set places z₀ at) y 0) same ∙ noted) (omega arith)
              (all_ahead (ap (λ (y : ℕ). get_or places y 0) same ∙ empty) (f.notes first z small) ∙ ap (having h z) more ∙ having_here h z here (ahead h p.next) (sym number ∙ sym same))
              (eq-eqb (be 2 h at) TLM passed_tlm.marker) passed_tlm.accepted)
              (λ e. let other = eqb-false z z₀ e in
              rw (get_or-set_other places z₀ z at 0 other)
              (with_rest (ap (having h z) more ∙ having_other h z here (ahead h p.next) (λ e. other (sym e ∙ sym number))) (f.notes first z small)));
        }

    module _ (noted : get_or places z₀ 0 ≡ 0 → ⊥) where
      -- its Ztlm was used before, and none was before it
      pub finding_again : again ≡ None → Finding h places p.next (Some at)
      unfolding here
      finding_again first =
          let old : is_in (ztlm h at) f.used ≡ true = ap (λ (z : ℕ). is_in z f.used) (sym number) ∙ f.marks z₀ small₀ ∙ ap not (ne_eqb (get_or places z₀ 0) 0 noted) in
          record {
            walking = walking_on h at f.walking p passed;
            sized = f.sized;
            used = f.used;
            marks = f.marks;
            repeats =
                f.repeats
                ∙ ap (λ (o : Option ℕ). told o (once h f.used (ahead h at))) first
                ∙ ap (once h f.used) more ∙ once_again h f.used here (ahead h p.next) old;
            notes = λ none. absurd (some_none none);
          }

      -- one was before it too
      pub finding_later : {place : ℕ} → again ≡ Some place → Finding h places p.next again
      finding_later some =
          record {
            walking = walking_on h at f.walking p passed;
            sized = f.sized;
            used = f.used;
            marks = f.marks;
            repeats =
                f.repeats
                ∙ ap (λ (o : Option ℕ). told o (once h f.used (ahead h at))) some
                ∙ sym (ap (λ (o : Option ℕ). told o (once h f.used (ahead h p.next))) some);
            notes = λ none. absurd (some_none (sym some ∙ none));
          }

-- ---- the walk's end

module _ (h : List ℕ) (places : List ℕ) (at : ℕ) (again : Option ℕ) (f : Finding h places at again) where
  pub end_refused : (r : Refusal) → walk_step_at h at ≡ Err r → Err r ≡ found h
  unfolding found found_as before
  end_refused r e = sym (rw (f.walking.ends ∙ ap (λ (c : Chain WalkEnd). c.ended) (walk_refused h at r e)))

  module _ (stood : walk_step_at h at ≡ Ok None) where
    ended_there : (walk_from h 2).ended ≡ at_first_sot
    ended_there = f.walking.ends ∙ ap (λ (c : Chain WalkEnd). c.ended) (walk_found h at stood)

    none_ahead : ahead h at ≡ []
    unfolding tlms_in
    none_ahead = ap (λ (c : Chain WalkEnd). tlms_in h c.visits) (walk_found h at stood)

    pub end_32 : {place : ℕ} → again ≡ Some place → Err (refusal TlmNumberRepeated place) ≡ found h
    unfolding found found_as before
    end_32 some = sym (rw (ended_there, f.repeats ∙ ap (λ (o : Option ℕ). told o (once h f.used (ahead h at))) some))

    module _ (first : again ≡ None) where
      pub end_found : Ok (record { 0 = at }) ≡ found h
      unfolding found found_as before once
      end_found =
          sym (rw (ended_there, f.repeats ∙ ap (λ (o : Option ℕ). told o (once h f.used (ahead h at))) first ∙ ap (once h f.used) none_ahead)
          (ap (λ (n : ℕ). Ok (record { 0 = n })) (f.walking.stops ∙ ap (λ (c : Chain WalkEnd). c.stopped) (walk_found h at stood))))

      noted_whole : (z : ℕ) {place : ℕ} {all : List Visit} → Ahead h place all (having h z (ahead h at)) → Notes h place all
      unfolding having
      noted_whole z (later e all) = none e (all ∙ ap (having h z) none_ahead)
      noted_whole z (met v e some all is accepted) = one v e some (all ∙ ap (λ (l : List Visit). v ∷ having h z l) none_ahead) is accepted

      pub end_noted : Noted h places
      end_noted z small = noted_whole z (f.notes first z small)
