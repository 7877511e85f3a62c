-- A prefix that holds the first SOT is enough: its TLM segments are the whole's, with the same numbers, order and entries, so that the check answers alike.
use Prim.Native.Nat.{ℕ, ◌+◌, ◌≤◌}
use native.Mathlib.Omega.{arith}
use mathlib.Core.Path.{◌≡◌, refl, sym, ap, ap₂, ◌∙◌}
use mathlib.Core.Bool.{true}
use mathlib.Core.List.{List, [], ◌∷◌, ◌++◌}
use lib.ListN.{length, take, drop, take-append-drop}
use lib.Seq.{take-length}
use lib.Dec.{leb, eqb}
use borrow.Author.Tests.{eqb-true}
use Rattle.std.specs.Prelude.{Result, Ok, Err}
use Rattle.numbers.specs.Bytes.{be}
use Rattle.numbers.proofs.BytesLaws.{be_front}
use Rattle.numbers.proofs.Rows.{be_one}
use Rattle.numbers.proofs.Choice.{by_bool}
use Rattle.types.specs.Markers.{TLM}
use Rattle.chain.specs.Chain.{Visit, Chain, Run, stay, step}
use Rattle.header.specs.Step.{segment_end}
use Rattle.header.specs.Tlm.{Entry, ztlm, Accepted, entry_count}
use Rattle.header.specs.Extent.{enough}
use Rattle.header.specs.Walk.{WalkEnd, at_first_sot, refused, walk_at}
use Rattle.header.specs.Strip.{is_tlm}
use Rattle.header.specs.Numbering.{next_number, entries_by, ended_by}
use Rattle.header.specs.Parse.{judged}
use Rattle.header.specs.declared.numbering.Numbering.TheVariants.{CarriedOn, Restarting}
use Rattle.header.proofs.WalkLaws.{walk_run}
use Rattle.header.proofs.NumberingLaws.{judged_restart}
use Rattle.header.proofs.ExtentPrefix.{Reached}
use Rattle.header.proofs.WalkPrefix.{walk_prefix}
use Rattle.header.proofs.ParsePrefix.{count_same, entries_same, next_same, marker_same, tlm_accepted, by_prefix}
use Rattle.header.proofs.Enough.{by_enough}
use Rattle.parts.specs.Scan.{scan_from}
use Rattle.lengths.specs.Segments.{tlms_in, tlms_of, once, insert, ordered, before, table_end}
use Rattle.lengths.specs.Check.{listed, standing, compared, behind_scan, behind_table, behind_header, checked}
use Rattle.header.specs.declared.parse.MainHeaderInfo.{MainHeaderInfo}
use Rattle.types.specs.declared.Refusal.{Refusal}

module _ (q t : List ℕ) where
  -- TLM segments that the walk over the prefix passed
  abbrev Met : Visit → Type 0
  Met v = (is_tlm q v ≡ true) × Accepted q v.at

  All : List Visit → Type 0
  All [] = Unit {0}
  All (v ∷ vs) = Met v × All vs

  tlm_same : (v : Visit) → Accepted q v.at → is_tlm (q ++ t) v ≡ is_tlm q v
  unfolding segment_end
  tlm_same v a = ap (λ (m : ℕ). eqb m TLM) (be_front 2 q t v.at (omega (arith, a.ends, a.long)))

  number_same : (at : ℕ) → Accepted q at → ztlm (q ++ t) at ≡ ztlm q at
  unfolding segment_end
  number_same at a = sym (be_one (q ++ t) (at + 4)) ∙ be_front 1 q t (at + 4) (omega (arith, a.ends, a.long)) ∙ be_one q (at + 4)

  once_same : (used : List ℕ) (vs : List Visit) → All vs → once (q ++ t) used vs ≡ once q used vs
  unfolding once All
  once_same used [] a = refl
  once_same used (v ∷ vs) a = rw (number_same v.at a.0.1, once_same (ztlm q v.at ∷ used) vs a.1)

  -- ---- their order

  insert_same : (v : Visit) → Met v → (vs : List Visit) → All vs → insert (q ++ t) v vs ≡ insert q v vs
  unfolding insert All
  insert_same v m [] a = refl
  insert_same v m (u ∷ vs) a = rw (number_same v.at m.1, number_same u.at a.0.1, insert_same v m vs a.1)

  all_insert : (v : Visit) → Met v → (vs : List Visit) → All vs → All (insert q v vs)
  unfolding insert All
  all_insert v m [] a = (m, tt)
  all_insert v m (u ∷ vs) a = by_bool (leb (ztlm q v.at) (ztlm q u.at)) (λ e. rw e (m, a)) (λ e. rw e (a.0, all_insert v m vs a.1))

  all_ordered : (vs : List Visit) → All vs → All (ordered q vs)
  unfolding ordered All
  all_ordered [] a = tt
  all_ordered (v ∷ vs) a = all_insert v a.0 (ordered q vs) (all_ordered vs a.1)

  ordered_same : (vs : List Visit) → All vs → ordered (q ++ t) vs ≡ ordered q vs
  unfolding ordered All
  ordered_same [] a = refl
  ordered_same (v ∷ vs) a = ap (insert (q ++ t) v) (ordered_same vs a.1) ∙ insert_same v a.0 (ordered q vs) (all_ordered vs a.1)

  -- ---- their entries and numbers

  listed_same : (k : ℕ) (vs : List Visit) → All vs → entries_by CarriedOn (q ++ t) k vs ≡ entries_by CarriedOn q k vs
  unfolding entries_by All
  listed_same k [] a = refl
  listed_same k (v ∷ vs) a =
      let m = a.0.1 in
      let at = v.at in
      rw (tlm_same v m, a.0.0, count_same q t at m, next_same q t at m CarriedOn k)
      (ap₂ ◌++◌ (entries_same q t at m k 0 (entry_count q at) (omega arith)) (listed_same (next_number CarriedOn q at k) vs a.1))

  numbers_same : (k : ℕ) (vs : List Visit) → All vs → ended_by CarriedOn (q ++ t) k vs at_first_sot ≡ ended_by CarriedOn q k vs at_first_sot
  unfolding ended_by All
  numbers_same k [] a = refl
  numbers_same k (v ∷ vs) a =
      let m = a.0.1 in
      rw (tlm_same v m, a.0.0, next_same q t v.at m CarriedOn k, numbers_same (next_number CarriedOn q v.at k) vs a.1)

  -- ---- along the walk

  all_met : {at stop : ℕ} {visits : List Visit} → Run (walk_at q) at visits stop → All (tlms_in q visits)
  unfolding tlms_in All
  all_met stay = tt
  all_met (step {at = at} {next = next} {rest = rest} found past more) =
      by_bool (is_tlm q (record { at = at; next = next }))
      (λ e. rw e ((e, tlm_accepted q t at next found (eqb-true (be 2 q at) TLM e)), all_met more))
      (λ e. rw e (all_met more))

  met_same : {at stop : ℕ} {visits : List Visit} → Run (walk_at q) at visits stop → tlms_in (q ++ t) visits ≡ tlms_in q visits
  unfolding tlms_in
  met_same stay = refl
  met_same (step {at = at} {next = next} found past more) = rw (marker_same q t at next found, met_same more)

  module _ {first : ℕ} (r : Reached q first) where
    all : All (tlms_of q)
    all = all_met (walk_run q 2)

    tlms_same : tlms_of (q ++ t) ≡ tlms_of q
    tlms_same = ap (λ (c : Chain WalkEnd). tlms_in (q ++ t) c.visits) (walk_prefix q t r) ∙ met_same (walk_run q 2)

    in_order : ordered (q ++ t) (tlms_of (q ++ t)) ≡ ordered q (tlms_of q)
    in_order = ap (ordered (q ++ t)) tlms_same ∙ ordered_same (tlms_of q) all

    table_same : table_end (q ++ t) ≡ table_end q
    unfolding table_end
    table_same =
        ap₂ before (ap (once (q ++ t) []) tlms_same ∙ once_same [] (tlms_of q) all)
        (ap (λ (vs : List Visit). ended_by CarriedOn (q ++ t) 0 vs at_first_sot) in_order ∙ numbers_same 0 (ordered q (tlms_of q)) (all_ordered (tlms_of q) all))

    pub listed_prefix : listed (q ++ t) ≡ listed q
    unfolding listed
    listed_prefix = ap (entries_by CarriedOn (q ++ t) 0) in_order ∙ listed_same 0 (ordered q (tlms_of q)) (all_ordered (tlms_of q) all)

    after_table : (s : List ℕ) (at : ℕ) (end : WalkEnd) → behind_table (q ++ t) s at end ≡ behind_table q s at end
    unfolding behind_table
    after_table s at at_first_sot = ap (λ (es : List Entry). behind_scan (scan_from s at).ended (compared 0 at es (standing s at))) listed_prefix
    after_table s at (refused x) = refl

    behind_same : (s : List ℕ) (answer : Result MainHeaderInfo Refusal) → behind_header (q ++ t) s answer ≡ behind_header q s answer
    unfolding behind_header
    behind_same s (Ok h) =
        let at = h.first_sot_offset.0 in
        ap (behind_table (q ++ t) s at) table_same ∙ after_table s at (table_end q)
    behind_same s (Err x) = refl

    pub check_prefix : (s : List ℕ) → length (q ++ t) ≤ 0xffff_ffff → behind_header (q ++ t) s (judged (q ++ t)) ≡ behind_header q s (judged q)
    check_prefix s short =
        behind_same s (judged (q ++ t))
        ∙ ap (behind_header q s) (sym (judged_restart (q ++ t)) ∙ by_prefix q t r short Restarting ∙ judged_restart q)

-- As many bytes as are enough answer as the whole does, where that may be read whole.
pub check_enough : (s : List ℕ) (n : ℕ) → enough s ≤ n → length s ≤ 0xffff_ffff → checked s n ≡ checked s (length s)
unfolding checked
check_enough s n held short =
    by_enough s n held (λ (x : List ℕ). behind_header x s (judged x))
    (λ r. check_prefix (take n s) (drop n s) r.1 s (rw (take-append-drop n s) short))
    ∙ ap (λ (x : List ℕ). behind_header x s (judged x)) (sym (take-length s))
