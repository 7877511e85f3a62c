-- The editions beside each other. Bytes 6 and 7, by which the newer asks for CAP, lie inside every codestream that is accepted; what the newer accepts
-- the older accepts with the same answer, table and decode header; and, room aside, what only the newer refuses it refuses by 33 or 34.
use Prim.Native.Nat.{ℕ, zero, suc, ◌+◌, ◌≤◌, ◌<◌}
use native.Mathlib.Omega.{arith}
use mathlib.Core.Path.{◌≡◌, refl, sym, ap, ◌∙◌}
use mathlib.Core.Logic.{◌⊎◌, inl, inr, ⊎_elim}
use mathlib.Core.Bool.{Bool, true, false}
use mathlib.Core.List.{List, [], ◌∷◌}
use lib.ListN.{length, get_or}
use lib.Dec.{leb, eqb}
use Rattle.std.specs.Prelude.{Option, Result, Ok, Err, ⊤}
use Rattle.numbers.specs.Bytes.{be}
use Rattle.numbers.proofs.Choice.{by_test, by_bool}
use Rattle.types.specs.Refusals.{refusal_number}
use Rattle.types.specs.Markers.{SOC, SIZ, TLM, SOT}
use Rattle.types.specs.declared.Refusal.{Refusal}
use Rattle.chain.specs.Chain.{Move, end, on, Visit, Run, stay, step}
use Rattle.chain.proofs.ChainLaws.{run_rises}
use Rattle.header.specs.Step.{delimits, segment_end, step_at}
use Rattle.header.specs.Tlm.{ltlm, stlm, index_size, tlm_at}
use Rattle.header.specs.Walk.{cut_at, tlm_step, passed_at, walk_step_of, walk_step_at, WalkEnd, at_first_sot, refused, walk_move, walk_at, walk_from}
use Rattle.header.specs.Strip.{is_tlm}
use Rattle.header.specs.Numbering.{next_number, ended_by}
use Rattle.header.specs.Edition.{announced, cap_fits, capped}
use Rattle.header.specs.Reading.{older_by, newer_by}
use Rattle.header.specs.Parse.{read_as, stands, front_of, judged, behind_front_by, judged_by, judged_as, with_room, parsed, table_after, out_after}
use Rattle.header.specs.declared.numbering.Numbering.{Numbering}
use Rattle.header.specs.declared.reading.Reading.{Reading}
use Rattle.header.specs.declared.step.Marker.{Marker}
use Rattle.header.specs.declared.step.HeaderStep.{HeaderStep}
use Rattle.header.specs.declared.step.HeaderStep.TheVariants.{Sot, Delimiter, Segment, CutShort}
use Rattle.header.specs.declared.parse.MainHeaderInfo.{MainHeaderInfo}
use Rattle.header.proofs.NumberingLaws.{refused_header, by_accepted}
use Rattle.header.proofs.EditionLaws.{caps_from, as_accepted, as_refused, as_older, as_newer}
use Rattle.header.proofs.ParseLaws.{judged_read, opens_with}
use Rattle.header.proofs.WalkLaws.{not_true_false, walk_run, walk_stops}
use Rattle.header.proofs.WalkItems.{Item, delimiter, segment, item, ends_there}
use Rattle.header.specs.declared.walk.Passed.{Passed as Passing}

-- ---- bytes 6 and 7

siz_no_delimiter : delimits SIZ ≡ false
unfolding delimits
siz_no_delimiter = refl

module _ (s : List ℕ) (bytes : (i : ℕ) → get_or s i 0 < 256) where
  -- Lsiz 1: no SOT stands at 5, whose first byte is Lsiz's second
  not_at_5 : be 2 s 4 ≡ 1 → be 2 s 5 ≡ SOT → ⊥
  unfolding be
  not_at_5 e k = omega (arith, bytes 6)

  at_once : {at : ℕ} (l : ℕ) → be 2 s 4 ≡ l → at ≡ 4 + l → at + 2 ≤ length s → be 2 s at ≡ SOT → 8 ≤ length s
  at_once zero k e inside sot = absurd (omega (arith, k, rw e at sot))
  at_once (suc zero) k e inside sot = absurd (not_at_5 k (rw e at sot))
  at_once (suc (suc l)) k e inside sot = omega arith

  -- from where SIZ ends to the first SOT
  behind : {next stop : ℕ} {visits : List Visit} → next ≡ segment_end s 2 → Run (walk_at s) next visits stop → walk_at s stop ≡ end at_first_sot → 8 ≤ length s
  unfolding segment_end
  behind e (stay {at = at}) ends = let there = ends_there s at ends in at_once (be 2 s 4) refl (omega (arith, e)) there.0 there.1
  behind e (step {at = at} {next = next} found past more) ends =
      let i = item s at next found in
      by i.0 (omega (arith, (ends_there s _ ends).0, run_rises more))
    where
      by : Item s at next → next + 2 ≤ length s → 8 ≤ length s
      by (delimiter d n) inside = omega (arith, n, e)
      by (segment sot d room n) inside = omega (arith, room, e)

  from_siz : {stop : ℕ} {visits : List Visit} → be 2 s 2 ≡ SIZ → Run (walk_at s) 2 visits stop → walk_at s stop ≡ end at_first_sot → 8 ≤ length s
  from_siz siz stay ends = absurd (omega (arith, siz, (ends_there s 2 ends).1))
  from_siz siz (step {next = next} found past more) ends = by (item s 2 next found).0
    where
      by : Item s 2 next → 8 ≤ length s
      by (delimiter d n) = absurd (not_true_false (sym d ∙ ap delimits siz ∙ siz_no_delimiter))
      by (segment sot d room n) = behind n more ends

  -- they lie inside every codestream that the walk accepts
  pub eight_inside : (h : MainHeaderInfo) → judged s ≡ Ok h → 8 ≤ length s
  eight_inside h e = from_siz (opens_with s h e).1 (walk_run s 2) (walk_stops s 2 ∙ ap end (judged_read s h e).ends)

  -- so they do however it is read
  pub eight_read : (how : Reading) (h : MainHeaderInfo) → judged_as how s ≡ Ok h → 8 ≤ length s
  eight_read how h e = eight_inside h (by_accepted how.numbering s h (as_accepted how s h e)).0

-- ---- the numbers of refusals

refused_same : {q r : Refusal} → ◌≡◌ {A = Result MainHeaderInfo Refusal} (Err q) (Err r) → q ≡ r
refused_same e = cc

number_same : {q r : Refusal} → ◌≡◌ {A = Result MainHeaderInfo Refusal} (Err q) (Err r) → refusal_number q ≡ refusal_number r
number_same e = ap (λ (p : Refusal). refusal_number p) (refused_same e)

-- the walk's
abbrev Few : WalkEnd → Type 0
Few at_first_sot = Unit {0}
Few (refused r) = refusal_number r ≤ 26

abbrev FewAt : Move WalkEnd → Type 0
FewAt (end ended) = Few ended
FewAt (on next) = Unit {0}

few_at : (s : List ℕ) (at : ℕ) → FewAt (walk_at s at)
unfolding walk_at walk_step_at walk_step_of walk_move cut_at passed_at tlm_step tlm_at
few_at s at = by (step_at s at)
  where
    by_cut : FewAt (end (refused (cut_at s at)))
    by_cut = by_test (λ (r : Refusal). refusal_number r ≤ 26) (leb (at + 2) (length s)) (λ _. omega arith) (λ _. omega arith)

    by_tlm : (m : Marker) → FewAt (walk_move (tlm_step m (tlm_at s at)))
    by_tlm m =
        let P : Result ℕ Refusal → Type 0 = λ t. FewAt (walk_move (tlm_step m t)) in
        by_test P (leb 4 (ltlm s at)) (λ _. by_test P (eqb (index_size (stlm s at)) 3) (λ _. omega arith) (λ _. tt)) (λ _. omega arith)

    by : (found : HeaderStep) → FewAt (walk_move (walk_step_of s at found))
    by Sot = tt
    by (Delimiter m) = tt
    by (Segment m) = by_test (λ (w : Result (Option Passing) Refusal). FewAt (walk_move w)) (eqb m.code TLM) (λ _. by_tlm m) (λ _. tt)
    by CutShort = by_cut

few_walk : (s : List ℕ) → Few (walk_from s 2).ended
few_walk s = rw (walk_stops s 2) at (few_at s (walk_from s 2).stopped)

-- a numbering's
few_by : (n : Numbering) (s : List ℕ) (k : ℕ) (vs : List Visit) (ended : WalkEnd) → Few ended → Few (ended_by n s k vs ended)
unfolding ended_by
few_by n s k [] ended few = few
few_by n s k (v ∷ rest) ended few =
    let next = next_number n s v.at k in
    by_test Few (is_tlm s v)
    (λ _. by_test Few (leb next 65_535) (λ _. few_by n s next rest ended few) (λ _. omega arith))
    (λ _. few_by n s k rest ended few)

abbrev FewOf : Result MainHeaderInfo Refusal → Type 0
FewOf (Ok h) = Unit {0}
FewOf (Err r) = refusal_number r ≤ 26

few_read : (s : List ℕ) (ended : WalkEnd) → Few ended → FewOf (read_as s (walk_from s 2) ended)
unfolding read_as
few_read s at_first_sot few = tt
few_read s (refused r) few = few

few_judged : (n : Numbering) (s : List ℕ) → FewOf (judged_by n s)
unfolding judged_by behind_front_by front_of
few_judged n s =
    let P : Result ⊤ Refusal → Type 0 = λ f. FewOf (behind_front_by n s f) in
    by_test P (leb (length s) 0xffff_ffff)
    (λ _. by_test P (stands s 0 SOC)
    (λ _. by_test P (stands s 2 SIZ)
    (λ _. few_read s (ended_by n s 0 (walk_from s 2).visits (walk_from s 2).ended) (few_by n s 0 (walk_from s 2).visits (walk_from s 2).ended (few_walk s)))
    (λ _. omega arith))
    (λ _. omega arith))
    (λ _. omega arith)

older_numbers : (n : Numbering) (s : List ℕ) (r : Refusal) → judged_by n s ≡ Err r → refusal_number r ≤ 26
older_numbers n s r e = rw e at (few_judged n s)

-- of the newer edition
capped_numbers : (wanted : Bool) (s caps : List ℕ) (h : MainHeaderInfo) (r : Refusal) → capped wanted s caps h ≡ Err r → (refusal_number r ≡ 33) ⊎ (refusal_number r ≡ 34)
unfolding capped
capped_numbers true s [] h r e = inl (sym (number_same e))
capped_numbers true s (at ∷ []) h r e = by_bool (cap_fits s at) (λ t. absurd (refused_header (sym (rw t at e)))) (λ t. inr (sym (number_same (rw t at e))))
capped_numbers true s (at ∷ again ∷ more) h r e = inl (sym (number_same e))
capped_numbers false s [] h r e = absurd (refused_header (sym e))
capped_numbers false s (at ∷ more) h r e = inl (sym (number_same e))

-- ---- what the newer accepts

room_accepted : (rows room : ℕ) (answer : Result MainHeaderInfo Refusal) (h : MainHeaderInfo) → with_room rows room answer ≡ Ok h → answer ≡ Ok h
unfolding with_room
room_accepted rows room (Ok k) h e =
    by_bool (leb k.tlm_entries rows)
    (λ many. by_bool (leb k.decode_header_length room)
    (λ fits. rw (many, fits) at e)
    (λ fits. absurd (refused_header (rw (many, fits) at e))))
    (λ many. absurd (refused_header (rw many at e)))
room_accepted rows room (Err r) h e = absurd (refused_header e)

module _ (n : Numbering) (s : List ℕ) where
  pub newer_judged : (h : MainHeaderInfo) → judged_as (newer_by n) s ≡ Ok h → judged_as (older_by n) s ≡ Ok h
  newer_judged h e = as_older (older_by n) s refl ∙ as_accepted (newer_by n) s h e

  module _ (rows room : ℕ) (h : MainHeaderInfo) (e : parsed (newer_by n) s rows room ≡ Ok h) where
    -- with the same answer: first SOT, length of the decode header, number of entries, fillers
    pub newer_older : parsed (older_by n) s rows room ≡ Ok h
    unfolding parsed
    newer_older =
        let accepted = room_accepted rows room (judged_as (newer_by n) s) h e in
        ap (with_room rows room) (newer_judged h accepted ∙ sym accepted) ∙ e

    -- the same table, and the same decode header
    pub newer_table : (table : List ℕ) → table_after n (parsed (newer_by n) s rows room) s table ≡ table_after n (parsed (older_by n) s rows room) s table
    newer_table table = ap (λ (answer : Result MainHeaderInfo Refusal). table_after n answer s table) (e ∙ sym newer_older)

    pub newer_out : (out : List ℕ) → out_after (parsed (newer_by n) s rows room) s out ≡ out_after (parsed (older_by n) s rows room) s out
    newer_out out = ap (λ (answer : Result MainHeaderInfo Refusal). out_after answer s out) (e ∙ sym newer_older)

  -- ---- what it refuses

  -- what the older refuses, alike
  pub newer_alike : (r : Refusal) → judged_as (older_by n) s ≡ Err r → judged_as (newer_by n) s ≡ Err r
  newer_alike r e = as_refused (newer_by n) s r (sym (as_older (older_by n) s refl) ∙ e)

  -- what the older accepts, by 33 or 34
  pub newer_only : (h : MainHeaderInfo) (r : Refusal) → judged_as (older_by n) s ≡ Ok h → judged_as (newer_by n) s ≡ Err r → (refusal_number r ≡ 33) ⊎ (refusal_number r ≡ 34)
  newer_only h r accepted e =
      capped_numbers (announced s) s (caps_from s 2) h r (sym (as_newer (newer_by n) s refl h (sym (as_older (older_by n) s refl) ∙ accepted)) ∙ e)

  -- and by these only what the older accepts
  pub newer_refused : (r : Refusal) → judged_as (newer_by n) s ≡ Err r → (refusal_number r ≡ 33) ⊎ (refusal_number r ≡ 34) → (h : MainHeaderInfo) × (judged_as (older_by n) s ≡ Ok h)
  newer_refused r e number = by (judged_as (older_by n) s) refl
    where
      by : (answer : Result MainHeaderInfo Refusal) → judged_as (older_by n) s ≡ answer → (h : MainHeaderInfo) × (judged_as (older_by n) s ≡ Ok h)
      by (Ok h) k = (h, k)
      by (Err q) k =
          let same = number_same (sym (newer_alike q k) ∙ e) in
          let small = older_numbers n s q (sym (as_older (older_by n) s refl) ∙ k) in
          absurd (⊎_elim (λ z. omega (arith, z, small, same)) (λ z. omega (arith, z, small, same)) number)
