-- What the walk has read where it goes on, a delimiter or a segment, and where it ends; and that at another place where the same is read it goes on
-- as far.
use Prim.Native.Nat.{ℕ, ◌+◌, ◌-◌, ◌≤◌}
use native.Mathlib.Omega.{arith}
use mathlib.Core.Path.{◌≡◌, sym, ap, ◌∙◌}
use mathlib.Core.Bool.{true, false}
use mathlib.Core.List.{List}
use lib.ListN.{length}
use lib.Dec.{eqb}
use Rattle.std.specs.Prelude.{Option, Result, Ok, Err}
use Rattle.numbers.specs.Bytes.{be}
use Rattle.numbers.proofs.Choice.{by_test}
use Rattle.types.specs.Markers.{TLM, SOT}
use Rattle.types.specs.declared.Refusal.{Refusal}
use Rattle.chain.specs.Chain.{Move, end, on}
use Rattle.chain.proofs.ChainLaws.{end_on}
use Rattle.header.specs.Step.{delimits, segment_end, passing, step_at}
use Rattle.header.specs.Tlm.{tlm_at}
use Rattle.header.specs.Walk.{tlm_step, passed_at, walk_step_of, walk_step_at, WalkEnd, at_first_sot, refused, walk_move, walk_at}
use Rattle.header.specs.declared.step.Marker.{Marker}
use Rattle.header.specs.declared.step.HeaderStep.{HeaderStep}
use Rattle.header.specs.declared.step.HeaderStep.TheVariants.{Sot, Delimiter, Segment, CutShort}
use Rattle.header.proofs.StepLaws.{Told, step_told, step_delimiter, step_segment, sot_no_delimiter}
use Rattle.header.proofs.WalkLaws.{not_true_false, walk_segment, walk_delimiter, pass_other}
use Rattle.header.specs.declared.walk.Passed.{Passed as Passing}

pub data Item (s : List ℕ) (at next : ℕ) : Type 0 where
  delimiter : delimits (be 2 s at) ≡ true → next ≡ at + 2 → Item s at next
  segment : (be 2 s at ≡ SOT → ⊥) → delimits (be 2 s at) ≡ false → at + 4 ≤ length s → next ≡ segment_end s at → Item s at next

-- ---- what was read

pub passed_to : (s : List ℕ) (at : ℕ) (m : Marker) (next : ℕ) → walk_move (passed_at s at m) ≡ on next → m.next ≡ next
unfolding passed_at walk_move tlm_step
passed_to s at m next e =
    by_test (λ (w : Result (Option Passing) Refusal). walk_move w ≡ on next → m.next ≡ next) (eqb m.code TLM) (λ _. by_tlm (tlm_at s at)) (λ _ e. (cc)) e
  where
    by_tlm : (t : Result ℕ Refusal) → walk_move (tlm_step m t) ≡ on next → m.next ≡ next
    by_tlm (Ok k) e = cc
    by_tlm (Err r) e = absurd (end_on e)

read : (s : List ℕ) (at next : ℕ) (found : HeaderStep) → Told s at found → walk_move (walk_step_of s at found) ≡ on next → Item s at next × (next ≤ length s)
unfolding walk_step_of walk_move
read s at next Sot told e = absurd (end_on e)
read s at next (Delimiter m) told e =
    let here : m.next ≡ next = cc in
    (delimiter told.4 (sym here ∙ told.2), omega (arith, told.1))
read s at next (Segment m) told e =
    let here = passed_to s at m next e in
    (segment told.5 told.6 told.4 (sym here ∙ told.2), omega (arith, told.1))
read s at next CutShort told e = absurd (end_on e)

pub item : (s : List ℕ) (at next : ℕ) → walk_at s at ≡ on next → Item s at next × (next ≤ length s)
unfolding walk_at walk_step_at
item s at next e = read s at next (step_at s at) (step_told s at) e

-- an item has its marker
pub item_long : {s : List ℕ} {at next : ℕ} → Item s at next → at + 2 ≤ next
unfolding segment_end
item_long (delimiter d n) = omega arith
item_long (segment sot d room n) = omega arith

-- ---- where it ends

not_first : {r : Refusal} → ◌≡◌ {A = Move WalkEnd} (end (refused r)) (end at_first_sot) → ⊥
not_first e = let z : ◌≡◌ {A = ℕ} 0 1 = cc in omega arith

-- the walk ends accepted only at an SOT, which stands there whole
pub ends_there : (s : List ℕ) (at : ℕ) → walk_at s at ≡ end at_first_sot → (at + 2 ≤ length s) × (be 2 s at ≡ SOT)
unfolding walk_at walk_step_at walk_step_of walk_move passed_at tlm_step
ends_there s at e = by (step_at s at) (step_told s at) e
  where
    Stands : Type 0
    Stands = (at + 2 ≤ length s) × (be 2 s at ≡ SOT)

    by_tlm : (m : Marker) (t : Result ℕ Refusal) → walk_move (tlm_step m t) ≡ end at_first_sot → Stands
    by_tlm m (Ok k) e = absurd (end_on (sym e))
    by_tlm m (Err r) e = absurd (not_first e)

    by : (found : HeaderStep) → Told s at found → walk_move (walk_step_of s at found) ≡ end at_first_sot → Stands
    by Sot told e = told
    by (Delimiter m) told e = absurd (end_on (sym e))
    by (Segment m) told e =
        by_test (λ (w : Result (Option Passing) Refusal). walk_move w ≡ end at_first_sot → Stands) (eqb m.code TLM) (λ _. by_tlm m (tlm_at s at)) (λ _ k. absurd (end_on (sym k))) e
    by CutShort told e = absurd (not_first e)

pub ends_sot : (s : List ℕ) (at : ℕ) → walk_at s at ≡ end at_first_sot → be 2 s at ≡ SOT
ends_sot s at e = (ends_there s at e).1

-- ---- the same at another place

module _ (s : List ℕ) (at next : ℕ) (a : List ℕ) (to : ℕ) where
  -- the segment's length stands there too
  abbrev pub Read : Type 0
  Read = (be 2 a (to + 2) ≡ be 2 s (at + 2)) × (to + 4 ≤ length a)

  -- what was passed, and is no TLM segment, is passed there
  pub passes_again : Item s at next → (be 2 s at ≡ TLM → ⊥) → be 2 a to ≡ be 2 s at → (next ≡ segment_end s at → Read) → to + (next - at) ≤ length a
      → walk_at a to ≡ on (to + (next - at))
  unfolding segment_end walk_at walk_move
  passes_again (delimiter d n) other same read inside =
      let there : to + 2 ≡ to + (next - at) = omega arith in
      let sot : be 2 a to ≡ SOT → ⊥ = λ e. not_true_false (sym d ∙ ap delimits (sym same ∙ e) ∙ sot_no_delimiter) in
      ap walk_move (walk_delimiter a to (passing (be 2 a to) (to + 2)) (step_delimiter a to (omega arith) sot (ap delimits same ∙ d))) ∙ ap (λ (k : ℕ). on k) there
  passes_again (segment sot d room n) other same read inside =
      let r = read n in
      let there : segment_end a to ≡ to + (next - at) = omega (arith, r.0) in
      ap walk_move
      (walk_segment a to (passing (be 2 a to) (segment_end a to))
      (step_segment a to (omega (arith, r.1)) (λ e. sot (sym same ∙ e)) (ap delimits same ∙ d) r.1 (omega arith))
      ∙ pass_other a to (passing (be 2 a to) (segment_end a to)) (λ e. other (sym same ∙ e)))
      ∙ ap (λ (k : ℕ). on k) there
