-- The two numberings beside each other: where they agree, and that carrying on is refused by 26 exactly where a number would pass 65,534, said of counts
-- over any number of segments.
use Prim.Native.Nat.{ℕ, ◌+◌, ◌-◌, ◌*◌, ◌≤◌, ◌<◌}
use native.Mathlib.Nat.{zero-add, add-zero, add_assoc}
use native.Mathlib.Omega.{arith}
use mathlib.Core.Path.{◌≡◌, refl, sym, ap, ap₂, ◌∙◌}
use mathlib.Core.Bool.{true, false, cond}
use mathlib.Core.List.{List, [], ◌∷◌, ◌++◌}
use lib.ListN.{length, get_or}
use lib.Dec.{leb, eqb}
use borrow.Author.Tests.{le-leb, lt-leb, leb-true, leb-false, eqb-true, eqb-false}
use Rattle.std.specs.Prelude.{Option, Some, None, Result, Ok, Err, ⊤}
use Rattle.numbers.proofs.Choice.{by_bool, by_test}
use Rattle.types.specs.Markers.{TLM}
use Rattle.types.specs.Refusals.{refusal, refusal_number}
use Rattle.types.specs.declared.Refusal.{Refusal}
use Rattle.chain.specs.Chain.{Move, end, on, Visit, Run, stay, step}
use Rattle.chain.proofs.ChainLaws.{end_on}
use Rattle.header.specs.Step.{step_at}
use Rattle.header.specs.Tlm.{Entry, ltlm, index_size, stlm, entry_count, tlm_at, unindexed, entries_on, placed}
use Rattle.header.specs.Walk.{cut_at, tlm_step, passed_at, walk_step_of, walk_step_at, WalkEnd, at_first_sot, refused, walk_move, walk_at, walk_from}
use Rattle.header.specs.Strip.{is_tlm}
use Rattle.header.specs.Numbering.{next_number, entries_by, ended_by, unindexed_in, unindexed_segments}
use Rattle.header.specs.Parse.{read_as, front_of, behind_front, judged, behind_front_by, judged_by, table_by}
use Rattle.header.specs.declared.numbering.Numbering.{Numbering}
use Rattle.header.specs.declared.numbering.Numbering.TheVariants.{CarriedOn, Restarting}
use Rattle.header.specs.declared.step.HeaderStep.{HeaderStep}
use Rattle.header.specs.declared.step.HeaderStep.TheVariants as found
use Rattle.header.proofs.TlmLaws.{entries_indexed, unindexed_all}
use Rattle.header.proofs.TlmFill.{unindexed_bound}
use Rattle.header.proofs.WalkLaws.{walk_run, walk_stops}
use Rattle.header.proofs.NumberingLaws.{refused_first, end_from, by_sound, judged_restart}
use Rattle.header.specs.declared.walk.Passed.{Passed as Passing}
use Rattle.header.specs.declared.parse.MainHeaderInfo.{MainHeaderInfo}
use Rattle.types.specs.declared.Reason.TheVariants.{TlmTooManyEntries}

-- ---- no number passes, or one does

module _ (s : List ℕ) where
  -- the numbers of all that was visited are few: nothing is refused
  pub none_past : (k : ℕ) (vs : List Visit) (ended : WalkEnd) → k + unindexed_in s vs ≤ 65_535 → ended_by CarriedOn s k vs ended ≡ ended
  unfolding ended_by next_number unindexed_in
  none_past k [] ended h = refl
  none_past k (v ∷ rest) ended h =
      by_bool (is_tlm s v)
      (λ t.
      let few : k + (unindexed s v.at + unindexed_in s rest) ≤ 65_535 = rw t at h in
      rw (t, le-leb (k + unindexed s v.at) 65_535 (omega arith)) (none_past (k + unindexed s v.at) rest ended (omega arith)))
      (λ t.
      let few : k + (0 + unindexed_in s rest) ≤ 65_535 = rw t at h in
      rw t (none_past k rest ended (omega arith)))

  -- they are many: some segment is refused
  some_past : (k : ℕ) (vs : List Visit) (ended : WalkEnd) → k ≤ 65_535 → 65_535 < k + unindexed_in s vs
      → (p : ℕ) × (ended_by CarriedOn s k vs ended ≡ refused (refusal TlmTooManyEntries p))
  unfolding ended_by next_number unindexed_in
  some_past k [] ended small h = absurd (omega arith)
  some_past k (v ∷ rest) ended small h =
      by_bool (is_tlm s v)
      (λ t.
      let many : 65_535 < k + (unindexed s v.at + unindexed_in s rest) = rw t at h in
      by_bool (leb (k + unindexed s v.at) 65_535)
      (λ e.
      let same : ended_by CarriedOn s k (v ∷ rest) ended ≡ ended_by CarriedOn s (k + unindexed s v.at) rest ended = rw (t, e) in
      let more = some_past (k + unindexed s v.at) rest ended (leb-true (k + unindexed s v.at) 65_535 e) (omega arith) in (more.0, same ∙ more.1))
      (λ e. (v.at, rw (t, e))))
      (λ t.
      let many : 65_535 < k + (0 + unindexed_in s rest) = rw t at h in
      let same : ended_by CarriedOn s k (v ∷ rest) ended ≡ ended_by CarriedOn s k rest ended = rw t in
      let more = some_past k rest ended small (omega arith) in (more.0, same ∙ more.1))

  -- where nothing before a visit is refused, the visit is numbered on behind the count of what stands before it
  pub few_before : (vs : List Visit) → ended_by CarriedOn s 0 vs at_first_sot ≡ at_first_sot → unindexed_in s vs ≤ 65_535
  few_before vs e =
      by_bool (leb (unindexed_in s vs) 65_535) (λ h. leb-true (unindexed_in s vs) 65_535 h)
      (λ h.
      let past = some_past 0 vs at_first_sot (omega arith) (omega (arith, leb-false (unindexed_in s vs) 65_535 h)) in
      absurd (refused_first (sym past.1 ∙ e)))

  behind : (k : ℕ) (before : List Visit) (v : Visit) (after : List Visit) (ended : WalkEnd) → k + unindexed_in s before ≤ 65_535
      → ended_by CarriedOn s k (before ++ (v ∷ after)) ended ≡ ended_by CarriedOn s (k + unindexed_in s before) (v ∷ after) ended
  unfolding ended_by next_number unindexed_in
  behind k [] v after ended h = rw add-zero
  behind k (u ∷ before) v after ended h =
      by_bool (is_tlm s u)
      (λ t.
      let few : k + (unindexed s u.at + unindexed_in s before) ≤ 65_535 = rw t at h in
      rw (t, le-leb (k + unindexed s u.at) 65_535 (omega arith))
      (behind (k + unindexed s u.at) before v after ended (omega arith)
      ∙ rw (add_assoc k (unindexed s u.at) (unindexed_in s before))))
      (λ t.
      let few : k + (0 + unindexed_in s before) ≤ 65_535 = rw t at h in
      rw (t, zero-add (unindexed_in s before)) (behind k before v after ended (omega arith)))

  -- ---- the answer, by the count

  -- no more than 65,535 in all: the answer is the walk's
  pub carried_accepts : unindexed_in s (walk_from s 2).visits ≤ 65_535 → judged_by CarriedOn s ≡ judged s
  unfolding judged_by behind_front_by judged behind_front
  carried_accepts h = by (front_of s)
    where
      by : (f : Result ⊤ Refusal) → behind_front_by CarriedOn s f ≡ behind_front s f
      by (Ok tt) = ap (read_as s (walk_from s 2)) (none_past 0 (walk_from s 2).visits (walk_from s 2).ended (omega arith))
      by (Err r) = refl

  -- more: 26
  pub carried_refuses : front_of s ≡ Ok tt → 65_535 < unindexed_in s (walk_from s 2).visits → (p : ℕ) × (judged_by CarriedOn s ≡ Err (refusal TlmTooManyEntries p))
  unfolding read_as
  carried_refuses sound h =
      let past = some_past 0 (walk_from s 2).visits (walk_from s 2).ended (omega arith) (omega arith) in
      (past.0, by_sound CarriedOn s sound ∙ ap (read_as s (walk_from s 2)) past.1)

-- ---- which segment is refused

-- the walk's own refusals have the numbers 3 to 6
abbrev Own : Result (Option Passing) Refusal → Type 0
Own (Ok (Some p)) = Unit {0}
Own (Ok None) = Unit {0}
Own (Err r) = refusal_number r ≤ 6

own_step : (s : List ℕ) (at : ℕ) (h : HeaderStep) → Own (walk_step_of s at h)
unfolding walk_step_of passed_at tlm_step tlm_at cut_at
own_step s at found.Sot = tt
own_step s at (found.Delimiter m) = tt
own_step s at (found.Segment m) =
    by_test Own (eqb m.code TLM)
    (λ _. by_test (λ (t : Result ℕ Refusal). Own (tlm_step m t)) (leb 4 (ltlm s at))
    (λ _. by_test (λ (t : Result ℕ Refusal). Own (tlm_step m t)) (eqb (index_size (stlm s at)) 3) (λ _. omega arith) (λ _. tt))
    (λ _. omega arith))
    (λ _. tt)
own_step s at found.CutShort = by_test (λ (r : Refusal). refusal_number r ≤ 6) (leb (at + 2) (length s)) (λ _. omega arith) (λ _. omega arith)

ending : WalkEnd → Move WalkEnd → WalkEnd
ending other (end a) = a
ending other (on next) = other

number_same : WalkEnd → ℕ
number_same at_first_sot = 0
number_same (refused r) = refusal_number r

place_of : WalkEnd → ℕ
place_of at_first_sot = 0
place_of (refused r) = r.place

own_end : (s : List ℕ) (at : ℕ) (r : Refusal) → (walk_from s at).ended ≡ refused r → refusal_number r ≤ 6
unfolding walk_at walk_move walk_step_at ending number_same
own_end s at r e = by (walk_step_at s stop) (own_step s stop (step_at s stop)) (walk_stops s at)
  where
    stop : ℕ
    stop = (walk_from s at).stopped

    by : (w : Result (Option Passing) Refusal) → Own w → walk_move w ≡ end (walk_from s at).ended → refusal_number r ≤ 6
    by (Ok (Some p)) own m = absurd (end_on (sym m))
    by (Ok None) own m = absurd (refused_first (sym (ap (ending at_first_sot) m ∙ e)))
    by (Err q) own m = omega (arith, ap number_same (ap (ending at_first_sot) m ∙ e))

-- what comes behind a position is refused there by no numbering
later : (n : Numbering) (s : List ℕ) (k p : ℕ) (ended : WalkEnd) {at stop : ℕ} {vs : List Visit} → Run (walk_at s) at vs stop → p < at
    → ended_by n s k vs ended ≡ refused (refusal TlmTooManyEntries p) → ended ≡ refused (refusal TlmTooManyEntries p)
unfolding ended_by place_of
later n s k p ended stay h e = e
later n s k p ended (step {at = at} {next = next} {rest = rest} found past run) h e =
    let v : Visit = record { at = at; next = next } in
    let number = next_number n s at k in
    by_bool (is_tlm s v)
    (λ t. by_bool (leb number 65_535)
    (λ f. later n s number p ended run (omega arith) (rw (t, f) at e))
    (λ f. absurd (omega (arith, ap place_of (rw (t, f) at e)))))
    (λ t. later n s k p ended run (omega arith) (rw t at e))

-- the run behind a visit
run_behind : (s : List ℕ) {at stop : ℕ} (before : List Visit) (v : Visit) (after : List Visit) → Run (walk_at s) at (before ++ (v ∷ after)) stop
    → (v.at < v.next) × Run (walk_at s) v.next after stop
run_behind s [] v after (step found past run) = (past, run)
run_behind s (u ∷ before) v after (step found past run) = run_behind s before v after run

read_end : Result MainHeaderInfo Refusal → WalkEnd
read_end (Ok h) = at_first_sot
read_end (Err r) = refused r

read_end_lem : (s : List ℕ) (ended : WalkEnd) → read_end (read_as s (walk_from s 2) ended) ≡ ended
unfolding read_as read_end
read_end_lem s at_first_sot = refl
read_end_lem s (refused r) = refl

-- A segment among those that the walk visits, and so passed by 3, 4 and 5; the front is sound, and carrying on refuses none before it.
module _ (s : List ℕ) (before : List Visit) (v : Visit) (after : List Visit) (met : (walk_from s 2).visits ≡ before ++ (v ∷ after))
    (sound : front_of s ≡ Ok tt) (none : ended_by CarriedOn s 0 before at_first_sot ≡ at_first_sot) (tlm : is_tlm s v ≡ true) where
  count : ℕ
  count = unindexed_in s before

  few : count ≤ 65_535
  unfolding count
  few = few_before s before none

  ends_here : end_from CarriedOn s 0 2
      ≡ cond (leb (count + unindexed s v.at) 65_535) (ended_by CarriedOn s (count + unindexed s v.at) after (walk_from s 2).ended) (refused (refusal TlmTooManyEntries v.at))
  unfolding count ended_by next_number
  ends_here =
      ap (λ (vs : List Visit). ended_by CarriedOn s 0 vs (walk_from s 2).ended) met
      ∙ behind s 0 before v after (walk_from s 2).ended (omega (arith, few))
      ∙ rw (zero-add (unindexed_in s before), tlm)

  -- It is refused by 26 there exactly when the number of one of its entries without an index would pass 65,534.
  pub past_refused : (i : ℕ) → i < unindexed s v.at → 65_534 < unindexed_in s before + i → judged_by CarriedOn s ≡ Err (refusal TlmTooManyEntries v.at)
  unfolding count read_as
  past_refused i h many =
      let there : end_from CarriedOn s 0 2 ≡ refused (refusal TlmTooManyEntries v.at) = ends_here ∙ rw (lt-leb (count + unindexed s v.at) 65_535 (omega arith)) in
      by_sound CarriedOn s sound ∙ ap (read_as s (walk_from s 2)) there

  pub refused_past : judged_by CarriedOn s ≡ Err (refusal TlmTooManyEntries v.at) → (i : ℕ) × (i < unindexed s v.at) × (65_534 < unindexed_in s before + i)
  unfolding count read_end
  refused_past e =
      by_bool (leb (count + unindexed s v.at) 65_535)
      (λ t.
      let there : end_from CarriedOn s 0 2 ≡ refused (refusal TlmTooManyEntries v.at) =
      sym (read_end_lem s (end_from CarriedOn s 0 2)) ∙ ap read_end (sym (by_sound CarriedOn s sound) ∙ e) in
      let run = run_behind s before v after (rw met at (walk_run s 2)) in
      let own = later CarriedOn s (count + unindexed s v.at) v.at (walk_from s 2).ended run.1 run.0 (rw t at (sym ends_here ∙ there)) in
      absurd (omega (arith, own_end s 2 (refusal TlmTooManyEntries v.at) own)))
      (λ f. let many = leb-false (count + unindexed s v.at) 65_535 f in let small = few in (65_535 - count, omega arith, omega arith))

-- ---- where the two agree

module _ (s : List ℕ) where
  none_left : (at : ℕ) → leb 1 (unindexed s at) ≡ false → unindexed s at ≡ 0
  none_left at e = omega (arith, leb-false 1 (unindexed s at) e)

  -- a segment without such entries has the same entries from any number on
  any_number : (at k m : ℕ) → unindexed s at ≡ 0 → entries_on s at k 0 (entry_count s at) ≡ entries_on s at m 0 (entry_count s at)
  unfolding entries_on
  any_number at k m none =
      by_bool (eqb (index_size (stlm s at)) 0)
      (λ e. rw (sym (unindexed_all s at (eqb-true _ _ e)) ∙ none))
      (λ e. entries_indexed s at k m 0 (entry_count s at) (eqb-false _ _ e))

  -- so have the segments behind the only one that has some
  none_numbered : (k m : ℕ) (vs : List Visit) → unindexed_segments s vs ≡ 0 → entries_by CarriedOn s k vs ≡ entries_by Restarting s m vs
  unfolding entries_by next_number unindexed_segments
  none_numbered k m [] h = refl
  none_numbered k m (v ∷ rest) h =
      by_bool (is_tlm s v)
      (λ t. by_bool (leb 1 (unindexed s v.at))
      (λ e. absurd (omega (arith, rw (t, e) at h)))
      (λ e. rw t (ap₂ ◌++◌ (any_number v.at k m (none_left v.at e)) (none_numbered (k + unindexed s v.at) 0 rest (omega (arith, rw (t, e) at h))))))
      (λ t. rw t (none_numbered k m rest (omega (arith, rw t at h))))

  one_numbered : (vs : List Visit) → unindexed_segments s vs ≤ 1 → entries_by CarriedOn s 0 vs ≡ entries_by Restarting s 0 vs
  unfolding entries_by next_number unindexed_segments
  one_numbered [] h = refl
  one_numbered (v ∷ rest) h =
      by_bool (is_tlm s v)
      (λ t. by_bool (leb 1 (unindexed s v.at))
      (λ e. rw t (ap (λ (es : List Entry). entries_on s v.at 0 0 (entry_count s v.at) ++ es) (none_numbered (0 + unindexed s v.at) 0 rest (omega (arith, rw (t, e) at h)))))
      (λ e. rw (t, none_left v.at e) (ap (λ (es : List Entry). entries_on s v.at 0 0 (entry_count s v.at) ++ es) (one_numbered rest (omega (arith, rw (t, e) at h))))))
      (λ t. rw t (one_numbered rest (omega (arith, rw t at h))))

  -- each has 65,535 of them at most
  segments_bound : ((i : ℕ) → get_or s i 0 < 256) → (vs : List Visit) → unindexed_in s vs ≤ unindexed_segments s vs * 65_535
  unfolding unindexed_in unindexed_segments
  segments_bound bytes [] = omega arith
  segments_bound bytes (v ∷ rest) =
      let more = segments_bound bytes rest in
      by_bool (is_tlm s v)
      (λ t. by_bool (leb 1 (unindexed s v.at))
      (λ e. rw (t, e) (omega (arith, unindexed_bound s v.at bytes)))
      (λ e. rw (t, e, none_left v.at e) (omega arith)))
      (λ t. rw t (omega arith))

  module _ (one : unindexed_segments s (walk_from s 2).visits ≤ 1) where
    -- where no more than one segment has entries without an index, the tables are the same,
    pub tables_agree : table_by CarriedOn s ≡ table_by Restarting s
    unfolding table_by
    tables_agree = ap (placed (walk_from s 2).stopped) (one_numbered (walk_from s 2).visits one)

    -- and so are the answers
    pub answers_agree : ((i : ℕ) → get_or s i 0 < 256) → judged_by CarriedOn s ≡ judged_by Restarting s
    answers_agree bytes = carried_accepts s (omega (arith, segments_bound bytes (walk_from s 2).visits)) ∙ sym (judged_restart s)
