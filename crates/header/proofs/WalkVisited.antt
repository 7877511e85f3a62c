-- What the walk has visited from a position on, step by step: what is kept, the TLM entries, the fillers, where it stopped and how it ended. And the law that
-- the decode header and the TLM segments make up the main header.
use Prim.Native.Nat.{ℕ, ◌+◌, ◌-◌, ◌*◌, ◌/◌, ◌≤◌}
use native.Mathlib.Nat.{div-mul-le_self, mul-le-mul_left}
use native.Mathlib.Omega.{arith}
use mathlib.Core.Path.{◌≡◌, sym, ap, ◌∙◌}
use mathlib.Core.Bool.{Bool, cond}
use mathlib.Core.List.{List, ◌∷◌, ◌++◌}
use lib.ListN.{length, take, drop, length-take, length-drop}
use borrow.Author.Tests.{eq-eqb, ne_eqb}
use Rattle.std.specs.Prelude.{Some, Ok, None}
use Rattle.numbers.specs.Bytes.{be}
use Rattle.types.specs.Markers.{TLM}
use Rattle.chain.specs.Chain.{Chain, also}
use Rattle.header.specs.Step.{segment_end}
use Rattle.header.specs.Tlm.{Entry, ltlm, stlm, entry_size, entry_count, entries_in}
use Rattle.header.specs.Walk.{WalkEnd, walk_step_at, walk_from}
use Rattle.header.specs.Strip.{fillers, kept, tlm_entries}
use Rattle.header.specs.declared.walk.Passed.{Passed as Passing}
use Rattle.header.proofs.WalkLaws.{TlmPassed, passed_is, walk_on}

-- the list of visits from a position on, by the step there
pub visits_on : (s : List ℕ) (at : ℕ) (p : Passing) → walk_step_at s at ≡ Ok (Some p)
    → (walk_from s at).visits ≡ record { at = at; next = p.next } ∷ (walk_from s p.next).visits
unfolding also
visits_on s at p e = ap (λ (c : Chain WalkEnd). c.visits) (walk_on s at p e)

pub stopped_on : (s : List ℕ) (at : ℕ) (p : Passing) → walk_step_at s at ≡ Ok (Some p) → (walk_from s at).stopped ≡ (walk_from s p.next).stopped
unfolding also
stopped_on s at p e = ap (λ (c : Chain WalkEnd). c.stopped) (walk_on s at p e)

pub ended_on : (s : List ℕ) (at : ℕ) (p : Passing) → walk_step_at s at ≡ Ok (Some p) → (walk_from s at).ended ≡ (walk_from s p.next).ended
unfolding also
ended_on s at p e = ap (λ (c : Chain WalkEnd). c.ended) (walk_on s at p e)

-- what is kept from a position on
abbrev pub kept_from : List ℕ → ℕ → List ℕ
kept_from s at = kept s (walk_from s at).visits

abbrev pub entries_from : List ℕ → ℕ → List Entry
entries_from s at = tlm_entries s (walk_from s at).visits

abbrev pub fillers_from : List ℕ → ℕ → ℕ
fillers_from s at = fillers s (walk_from s at).visits

module _ (s : List ℕ) (at : ℕ) (p : Passing) (found : walk_step_at s at ≡ Ok (Some p)) where
  pub fillers_on : fillers_from s at ≡ cond p.is_filler 1 0 + fillers_from s p.next
  unfolding fillers
  fillers_on =
      ap (fillers s) (visits_on s at p found) ∙ ap (λ (b : Bool). cond b 1 0 + fillers_from s p.next) (sym (passed_is s at p found).filler)

  -- other than TLM
  module _ (plain : p.tlm ≡ None) where
    other : be 2 s at ≡ TLM → ⊥
    other = (passed_is s at p found).plain plain

    pub kept_plain : kept_from s at ≡ take (p.next - at) (drop at s) ++ kept_from s p.next
    unfolding kept
    kept_plain = ap (kept s) (visits_on s at p found) ∙ rw (ne_eqb _ _ other)

    pub entries_plain : entries_from s at ≡ entries_from s p.next
    unfolding tlm_entries
    entries_plain = ap (tlm_entries s) (visits_on s at p found) ∙ rw (ne_eqb _ _ other)

  -- a TLM segment
  module _ {count : ℕ} (is : p.tlm ≡ Some count) where
    told : TlmPassed s at p count
    told = (passed_is s at p found).tlm _ is

    pub kept_tlm : kept_from s at ≡ kept_from s p.next
    unfolding kept
    kept_tlm = ap (kept s) (visits_on s at p found) ∙ rw (eq-eqb _ _ told.marker)

    pub entries_tlm : entries_from s at ≡ entries_in s at 0 count ++ entries_from s p.next
    unfolding tlm_entries
    entries_tlm = ap (tlm_entries s) (visits_on s at p found) ∙ rw (eq-eqb _ _ told.marker, told.count)

    -- an entry has 2 bytes or more, and the segment 6 before the first
    pub entries_few : at + (6 + count * 2) ≤ p.next
    unfolding segment_end entry_count
    entries_few =
        let size = entry_size (stlm s at) in
        let long = told.accepted.long in
        let whole = told.whole in
        let two : 2 ≤ size = omega arith in
        omega (arith, told.count, mul-le-mul_left ((ltlm s at - 4) / size) two, div-mul-le_self (ltlm s at - 4) size)

-- ---- lengths

-- a walk that goes on inside never leaves the bytes, and what it visits is as long as it says
pub length_visited : (s : List ℕ) (at next : ℕ) → next ≤ length s → length (take (next - at) (drop at s)) ≡ next - at
length_visited s at next h = simp (length-take, length-drop) (omega arith)
