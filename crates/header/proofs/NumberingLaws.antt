-- A numbering's definitions along the walk, opened once: a law for each case. Numbering from 0 in each segment refuses nothing, and gives the entries of
-- the segments as each has them; no numbering changes how many there are, nor accepts what the walk refuses.
use Prim.Native.Nat.{ℕ, ◌+◌, ◌≤◌, ◌<◌}
use native.Mathlib.Nat.{zero-add}
use native.Mathlib.Omega.{arith}
use mathlib.Core.Path.{◌≡◌, refl, sym, ap, ap₂, ◌∙◌}
use mathlib.Core.List.{List, [], ◌∷◌, ◌++◌}
use lib.ListN.{length, get_or, length-append}
use lib.Dec.{leb}
use borrow.Author.Tests.{eq-eqb, ne_eqb, le-leb, lt-leb, leb-true, leb-false}
use Rattle.std.specs.Prelude.{Some, Result, Ok, Err, ⊤, None}
use Rattle.numbers.specs.Bytes.{be}
use Rattle.numbers.proofs.Choice.{by_bool}
use Rattle.types.specs.Markers.{TLM}
use Rattle.types.specs.Refusals.{refusal}
use Rattle.types.specs.declared.Refusal.{Refusal}
use Rattle.chain.specs.Chain.{Visit}
use Rattle.header.specs.Tlm.{Entry, index_size, stlm, entry_count, unindexed, entries_in, entries_on, placed}
use Rattle.header.specs.Walk.{WalkEnd, at_first_sot, refused, walk_step_at, walk_from}
use Rattle.header.specs.Strip.{is_tlm, tlm_entries}
use Rattle.header.specs.Numbering.{next_number, entries_by, ended_by, unindexed_in}
use Rattle.header.specs.Parse.{read_as, front_of, behind_front, judged, behind_front_by, judged_by, tlm_table, table_by}
use Rattle.header.specs.declared.numbering.Numbering.{Numbering}
use Rattle.header.specs.declared.numbering.Numbering.TheVariants.{CarriedOn, Restarting}
use Rattle.header.specs.declared.walk.Passed.{Passed as Passing}
use Rattle.header.specs.declared.parse.MainHeaderInfo.{MainHeaderInfo}
use Rattle.header.proofs.TlmLaws.{length_entries, length_on, entries_from_0, unindexed_all, unindexed_none}
use Rattle.header.proofs.TlmFill.{unindexed_bound}
use Rattle.header.proofs.WalkLaws.{passed_is}
use Rattle.header.proofs.WalkVisited.{visits_on, ended_on}
use Rattle.types.specs.declared.Reason.TheVariants.{TlmTooManyEntries}

pub refused_first : {r : Refusal} → refused r ≡ at_first_sot → ⊥
refused_first e = let z : ◌≡◌ {A = ℕ} 0 1 = cc in omega arith

pub refused_header : {r : Refusal} {h : MainHeaderInfo} → Err r ≡ Ok h → ⊥
refused_header e = let z : ◌≡◌ {A = ℕ} 0 1 = cc in omega arith

-- ---- the next number

module _ (s : List ℕ) (at k : ℕ) where
  pub next_restarts : next_number Restarting s at k ≡ 0
  unfolding next_number
  next_restarts = refl

  pub next_counts : index_size (stlm s at) ≡ 0 → next_number CarriedOn s at k ≡ k + entry_count s at
  unfolding next_number
  next_counts e = ap (λ (m : ℕ). k + m) (unindexed_all s at e)

  pub next_stays : (index_size (stlm s at) ≡ 0 → ⊥) → next_number CarriedOn s at k ≡ k
  unfolding next_number
  next_stays h = omega (arith, unindexed_none s at h)

-- ---- along the walk

abbrev pub by_from : Numbering → List ℕ → ℕ → ℕ → List Entry
by_from n s k at = entries_by n s k (walk_from s at).visits

abbrev pub end_from : Numbering → List ℕ → ℕ → ℕ → WalkEnd
end_from n s k at = ended_by n s k (walk_from s at).visits (walk_from s at).ended

module _ (n : Numbering) (s : List ℕ) (k at : ℕ) (p : Passing) (found : walk_step_at s at ≡ Ok (Some p)) where
  end_there : end_from n s k at ≡ ended_by n s k (record { at = at; next = p.next } ∷ (walk_from s p.next).visits) (walk_from s p.next).ended
  end_there = ap₂ (ended_by n s k) (visits_on s at p found) (ended_on s at p found)

  module _ (plain : p.tlm ≡ None) where
    other : be 2 s at ≡ TLM → ⊥
    other = (passed_is s at p found).plain plain

    pub by_plain : by_from n s k at ≡ by_from n s k p.next
    unfolding entries_by
    by_plain = ap (entries_by n s k) (visits_on s at p found) ∙ rw (ne_eqb _ _ other)

    pub end_plain : end_from n s k at ≡ end_from n s k p.next
    unfolding ended_by
    end_plain = end_there ∙ rw (ne_eqb _ _ other)

  module _ {count : ℕ} (is : p.tlm ≡ Some count) where
    pub by_tlm : by_from n s k at ≡ entries_on s at k 0 count ++ by_from n s (next_number n s at k) p.next
    unfolding entries_by
    by_tlm = let told = (passed_is s at p found).tlm _ is in ap (entries_by n s k) (visits_on s at p found) ∙ rw (eq-eqb _ _ told.marker, told.count)

    -- the numbers do not pass, or this is where they do
    pub end_tlm : next_number n s at k ≤ 65_535 → end_from n s k at ≡ end_from n s (next_number n s at k) p.next
    unfolding ended_by
    end_tlm h = end_there ∙ rw (eq-eqb _ _ ((passed_is s at p found).tlm _ is).marker, le-leb _ _ h)

    pub end_26 : 65_535 < next_number n s at k → end_from n s k at ≡ refused (refusal TlmTooManyEntries at)
    unfolding ended_by
    end_26 h = end_there ∙ rw (eq-eqb _ _ ((passed_is s at p found).tlm _ is).marker, lt-leb _ _ h)

    -- where the walk ends at the first SOT, no number of this segment passes
    pub next_few : end_from n s k at ≡ at_first_sot → next_number n s at k ≤ 65_535
    next_few e =
        by_bool (leb (next_number n s at k) 65_535)
        (λ h. leb-true (next_number n s at k) 65_535 h)
        (λ h. absurd (refused_first (sym (end_26 (leb-false (next_number n s at k) 65_535 h)) ∙ e)))

-- ---- how many have no index

module _ (s : List ℕ) (at : ℕ) (p : Passing) (found : walk_step_at s at ≡ Ok (Some p)) where
  pub count_plain : p.tlm ≡ None → unindexed_in s (walk_from s at).visits ≡ unindexed_in s (walk_from s p.next).visits
  unfolding unindexed_in
  count_plain plain = ap (unindexed_in s) (visits_on s at p found) ∙ rw (ne_eqb _ _ ((passed_is s at p found).plain plain)) (zero-add _)

  pub count_tlm : {count : ℕ} → p.tlm ≡ Some count → unindexed_in s (walk_from s at).visits ≡ unindexed s at + unindexed_in s (walk_from s p.next).visits
  unfolding unindexed_in
  count_tlm is = ap (unindexed_in s) (visits_on s at p found) ∙ rw (eq-eqb _ _ ((passed_is s at p found).tlm _ is).marker)

-- ---- the number from which a segment's entries are numbered

-- from 0 on in each segment
abbrev pub Starts : Numbering → ℕ → Type 0
Starts CarriedOn k = Unit {0}
Starts Restarting k = k ≡ 0

pub starts_0 : (n : Numbering) → Starts n 0
starts_0 CarriedOn = tt
starts_0 Restarting = refl

pub starts_next : (n : Numbering) (s : List ℕ) (at k : ℕ) → Starts n (next_number n s at k)
unfolding next_number
starts_next CarriedOn s at k = tt
starts_next Restarting s at k = refl

-- the numbers of a segment that is passed are those that 16 bits hold
pub numbers_few : (n : Numbering) (s : List ℕ) → ((i : ℕ) → get_or s i 0 < 256) → (at k : ℕ) → Starts n k → next_number n s at k ≤ 65_535 → k + unindexed s at ≤ 65_535
unfolding next_number
numbers_few CarriedOn s bytes at k from h = h
numbers_few Restarting s bytes at k from h = omega (arith, unindexed_bound s at bytes)

-- ---- what no numbering changes

module _ (n : Numbering) (s : List ℕ) where
  pub length_by : (k : ℕ) (vs : List Visit) → length (entries_by n s k vs) ≡ length (tlm_entries s vs)
  unfolding entries_by tlm_entries
  length_by k [] = refl
  length_by k (v ∷ rest) =
      let at = v.at in
      let count = entry_count s at in
      by_bool (is_tlm s v)
      (λ e. rw e
      (length-append (entries_on s at k 0 count) (entries_by n s (next_number n s at k) rest)
      ∙ ap₂ ◌+◌ (length_on s at k 0 count ∙ sym (length_entries s at 0 count)) (length_by (next_number n s at k) rest)
      ∙ sym (length-append (entries_in s at 0 count) (tlm_entries s rest))))
      (λ e. rw e (length_by k rest))

  -- what ends at the first SOT by a numbering ends there without
  pub ended_first : (k : ℕ) (vs : List Visit) (ended : WalkEnd) → ended_by n s k vs ended ≡ at_first_sot → ended ≡ at_first_sot
  unfolding ended_by
  ended_first k [] ended e = e
  ended_first k (v ∷ rest) ended e =
      let next = next_number n s v.at k in
      by_bool (is_tlm s v)
      (λ t. by_bool (leb next 65_535)
      (λ h. ended_first next rest ended (rw (t, h) at e))
      (λ h. absurd (refused_first (rw (t, h) at e))))
      (λ t. ended_first k rest ended (rw t at e))

  pub by_refused : (r : Refusal) → front_of s ≡ Err r → judged_by n s ≡ Err r
  unfolding judged_by behind_front_by
  by_refused r e = ap (behind_front_by n s) e

  pub by_sound : front_of s ≡ Ok tt → judged_by n s ≡ read_as s (walk_from s 2) (end_from n s 0 2)
  unfolding judged_by behind_front_by
  by_sound e = ap (behind_front_by n s) e

  -- a header that is accepted by a numbering is accepted by the walk, which says the same of it
  pub by_accepted : (h : MainHeaderInfo) → judged_by n s ≡ Ok h → (judged s ≡ Ok h) × (end_from n s 0 2 ≡ at_first_sot)
  unfolding judged_by behind_front_by judged behind_front read_as
  by_accepted h = by (front_of s)
    where
      walked : (ended : WalkEnd) → end_from n s 0 2 ≡ ended → read_as s (walk_from s 2) ended ≡ Ok h
          → (read_as s (walk_from s 2) (walk_from s 2).ended ≡ Ok h) × (end_from n s 0 2 ≡ at_first_sot)
      walked at_first_sot e accepted =
          (ap (read_as s (walk_from s 2)) (ended_first 0 (walk_from s 2).visits (walk_from s 2).ended e) ∙ accepted, e)
      walked (refused r) e accepted = absurd (refused_header accepted)

      by : (f : Result ⊤ Refusal) → behind_front_by n s f ≡ Ok h → (behind_front s f ≡ Ok h) × (end_from n s 0 2 ≡ at_first_sot)
      by (Ok tt) e = walked (end_from n s 0 2) refl e
      by (Err r) e = absurd (refused_header e)

-- ---- numbered from 0 in each segment, all is as the walk and the segments have it

module _ (s : List ℕ) where
  pub entries_restart : (vs : List Visit) → entries_by Restarting s 0 vs ≡ tlm_entries s vs
  unfolding entries_by next_number tlm_entries
  entries_restart [] = refl
  entries_restart (v ∷ rest) =
      by_bool (is_tlm s v)
      (λ e. rw e (ap₂ ◌++◌ (entries_from_0 s v.at 0 (entry_count s v.at)) (entries_restart rest)))
      (λ e. rw e (entries_restart rest))

  ended_restart : (k : ℕ) (vs : List Visit) (ended : WalkEnd) → ended_by Restarting s k vs ended ≡ ended
  unfolding ended_by next_number
  ended_restart k [] ended = refl
  ended_restart k (v ∷ rest) ended = by_bool (is_tlm s v) (λ e. rw e (ended_restart 0 rest ended)) (λ e. rw e (ended_restart k rest ended))

  pub judged_restart : judged_by Restarting s ≡ judged s
  unfolding judged_by behind_front_by judged behind_front
  judged_restart = by (front_of s)
    where
      by : (f : Result ⊤ Refusal) → behind_front_by Restarting s f ≡ behind_front s f
      by (Ok tt) = ap (read_as s (walk_from s 2)) (ended_restart 0 (walk_from s 2).visits (walk_from s 2).ended)
      by (Err r) = refl

  pub table_restart : table_by Restarting s ≡ tlm_table s
  unfolding table_by tlm_table
  table_restart = ap (placed (walk_from s 2).stopped) (entries_restart (walk_from s 2).visits)
