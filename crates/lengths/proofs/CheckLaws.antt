-- The check's answer, stage by stage: what the header's walk, the order of the segments and their numbers refuse, and then the comparison.
use Prim.Native.Nat.{ℕ, min}
use native.Mathlib.Omega.{arith}
use mathlib.Core.Path.{◌≡◌, refl, sym, ap, ◌∙◌}
use mathlib.Core.List.{List, []}
use lib.ListN.{length, take}
use lib.Seq.{take_all, take-length}
use lib.Dec.{leb}
use borrow.Author.Tests.{leb-true, leb-false}
use Rattle.std.specs.Prelude.{Option, Result, Ok, Err}
use Rattle.numbers.proofs.Choice.{by_bool}
use Rattle.types.specs.declared.Refusal.{Refusal}
use Rattle.types.specs.declared.CodestreamOffset.{CodestreamOffset}
use Rattle.header.specs.Walk.{WalkEnd, at_first_sot, refused, walk_from}
use Rattle.header.specs.Parse.{read_as, front_of, judged}
use Rattle.header.proofs.ParseLaws.{judged_refused, judged_sound}
use Rattle.parts.specs.Scan.{scan_from}
use Rattle.lengths.specs.Segments.{tlms_of, once, before, numbers_end, table_end}
use Rattle.lengths.specs.Places.{found_as, found, numbered}
use Rattle.lengths.specs.Check.{listed, standing, compared, behind_scan, behind_table, behind_header, checked}
use Rattle.lengths.specs.declared.check.Difference.{Difference}

-- behind a front that is sound
abbrev pub behind_sound : List ℕ → List ℕ → Result (Option Difference) Refusal
behind_sound h s = behind_header h s (read_as h (walk_from h 2) (walk_from h 2).ended)

ok_err : {A : Type 0} {x : A} {r : Refusal} → ◌≡◌ {A = Result A Refusal} (Ok x) (Err r) → ⊥
ok_err e = let z : ◌≡◌ {A = ℕ} 0 1 = cc in omega arith

pub as_refused : {A : Type 0} (x : A) (end : WalkEnd) (r : Refusal) → found_as x end ≡ Err r → end ≡ refused r
unfolding found_as
as_refused x at_first_sot r e = absurd (ok_err e)
as_refused x (refused q) r e = cc

pub as_first : {A : Type 0} (x : A) (end : WalkEnd) (y : A) → found_as x end ≡ Ok y → (end ≡ at_first_sot) × (x ≡ y)
unfolding found_as
as_first x at_first_sot y e = (refl, cc)
as_first x (refused q) y e = absurd (ok_err (sym e))

before_first : (this that : WalkEnd) → before this that ≡ at_first_sot → (this ≡ at_first_sot) × (that ≡ at_first_sot)
unfolding before
before_first at_first_sot that e = (refl, e)
before_first (refused r) that e = let z : ◌≡◌ {A = ℕ} 0 1 = cc in absurd (omega arith)

pub numbers_end_lem : (h : List ℕ) → numbered h ≡ Ok tt → numbers_end h ≡ at_first_sot
numbers_end_lem h f = (as_first tt (numbers_end h) tt f).0

module _ (h s : List ℕ) where
  -- what the walk refuses, then 32
  pub walk_refuses : (r : Refusal) → (walk_from h 2).ended ≡ refused r → behind_sound h s ≡ Err r
  unfolding read_as behind_header
  walk_refuses r e = rw e

  pub walk_accepts : (walk_from h 2).ended ≡ at_first_sot → behind_sound h s ≡ behind_table h s (walk_from h 2).stopped (table_end h)
  unfolding read_as behind_header
  walk_accepts e = rw e

  pub repeat_refuses : (r : Refusal) → (walk_from h 2).ended ≡ at_first_sot → once h [] (tlms_of h) ≡ refused r → behind_sound h s ≡ Err r
  unfolding table_end before behind_table
  repeat_refuses r accepted e = walk_accepts accepted ∙ rw e

  -- then 26
  pub order_accepts : (walk_from h 2).ended ≡ at_first_sot → once h [] (tlms_of h) ≡ at_first_sot → behind_sound h s ≡ behind_table h s (walk_from h 2).stopped (numbers_end h)
  unfolding table_end before
  order_accepts accepted e = walk_accepts accepted ∙ rw e

  -- ---- by what is found

  pub found_refused : (r : Refusal) → found h ≡ Err r → behind_sound h s ≡ Err r
  unfolding found before
  found_refused r e = by (walk_from h 2).ended refl (as_refused _ _ r e)
    where
      by : (end : WalkEnd) → (walk_from h 2).ended ≡ end → before end (once h [] (tlms_of h)) ≡ refused r → behind_sound h s ≡ Err r
      by at_first_sot there e = repeat_refuses r there e
      by (refused q) there e = walk_refuses r (there ∙ e)

  module _ (o : CodestreamOffset) (e : found h ≡ Ok o) where
    ends : ((walk_from h 2).ended ≡ at_first_sot) × (once h [] (tlms_of h) ≡ at_first_sot)
    unfolding found
    ends = before_first _ _ (as_first _ _ o e).0

    there : (walk_from h 2).stopped ≡ o.0
    unfolding found
    there = ap (λ (p : CodestreamOffset). p.0) (as_first (record { 0 = (walk_from h 2).stopped }) (before (walk_from h 2).ended (once h [] (tlms_of h))) o e).1

    pub numbers_refused : (r : Refusal) → numbered h ≡ Err r → behind_sound h s ≡ Err r
    unfolding behind_table
    numbers_refused r f = order_accepts ends.0 ends.1 ∙ rw (as_refused tt (numbers_end h) r f)

    pub numbers_accepted : numbered h ≡ Ok tt → behind_sound h s ≡ behind_scan (scan_from s o.0).ended (compared 0 o.0 (listed h) (standing s o.0))
    unfolding behind_table
    numbers_accepted f =
        order_accepts ends.0 ends.1 ∙ rw (numbers_end_lem h f)
        (ap (λ (n : ℕ). behind_scan (scan_from s n).ended (compared 0 n (listed h) (standing s n))) there)

-- ---- the region

-- as many bytes as there are
take_least : (n m : ℕ) (s : List ℕ) → m ≡ min n (length s) → take m s ≡ take n s
take_least n m s least =
    by_bool (leb n (length s))
    (λ e. let few = leb-true n (length s) e in let same : m ≡ n = omega arith in ap (λ (k : ℕ). take k s) same)
    (λ e. let many = leb-false n (length s) e in let all : m ≡ length s = omega arith in ap (λ (k : ℕ). take k s) all ∙ take-length s ∙ sym (take_all n s (omega arith)))

module _ (s : List ℕ) (region end : ℕ) (least : end ≡ min region (length s)) where
  pub front_refused : (r : Refusal) → front_of (take end s) ≡ Err r → Err r ≡ checked s region
  unfolding checked behind_header
  front_refused r e =
      sym (ap (λ (h : List ℕ). behind_header h s (judged h)) (sym (take_least region end s least))
      ∙ ap (behind_header (take end s) s) (judged_refused (take end s) r e))

  pub front_sound : front_of (take end s) ≡ Ok tt → behind_sound (take end s) s ≡ checked s region
  unfolding checked
  front_sound e =
      sym (ap (λ (h : List ℕ). behind_header h s (judged h)) (sym (take_least region end s least))
      ∙ ap (behind_header (take end s) s) (judged_sound (take end s) e))
