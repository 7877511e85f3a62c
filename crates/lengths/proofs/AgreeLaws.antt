-- An entry beside what stands at a position, case by case; and what the comparison of two lists says where the first entry of one is known.
use Prim.Native.Nat.{ℕ, ◌+◌, ◌<◌}
use native.Mathlib.Omega.{arith}
use mathlib.Core.Path.{◌≡◌, refl, sym, ap, ◌∙◌}
use mathlib.Core.Bool.{true, false}
use mathlib.Core.List.{List, [], ◌∷◌, map}
use lib.ListN.{length}
use lib.Dec.{eqb}
use borrow.Author.Tests.{eq-eqb, ne_eqb, eqb-true}
use Rattle.std.specs.Prelude.{Option, Some, None, Result, Ok, Err, is_some}
use Rattle.std.specs.Result.{result_unwrap_or}
use Rattle.numbers.proofs.Choice.{by_bool}
use Rattle.types.specs.declared.Refusal.{Refusal}
use Rattle.types.specs.declared.CodestreamOffset.{CodestreamOffset}
use Rattle.types.specs.declared.TilePartEntry.{TilePartEntry}
use Rattle.header.specs.Tlm.{Entry}
use Rattle.header.proofs.WalkLaws.{not_true_false, some_none}
use Rattle.parts.specs.Scan.{ScanEnd, ended, scan_step_at, scan_from, part_at, entries_from, judged, ended_as}
use Rattle.parts.specs.Scan as scan
use Rattle.parts.proofs.ScanAnswers.{judged_table}
use Rattle.parts.proofs.ScanLaws.{part_offset, entries_ended, entries_refused, entries_part, entries_next}
use Rattle.lengths.specs.Check.{pair_of, standing, same, said, differing, compared, behind_scan}
use Rattle.lengths.specs.declared.check.Difference.{Difference}
use Rattle.lengths.specs.Agree.{agreed_by, settled_as}
use Rattle.lengths.specs.declared.check.Said.{Said}

-- ---- the same entry

module _ (x y : Entry) where
  pub same_both : x.index ≡ y.index → x.bytes ≡ y.bytes → same x y ≡ true
  unfolding same
  same_both i b = rw (eq-eqb _ _ i, eq-eqb _ _ b)

  pub other_index : (x.index ≡ y.index → ⊥) → same x y ≡ false
  unfolding same
  other_index n = rw (ne_eqb _ _ n)

  pub other_bytes : (x.bytes ≡ y.bytes → ⊥) → same x y ≡ false
  unfolding same
  other_bytes n = by_bool (eqb x.index y.index) (λ e. rw (e, ne_eqb _ _ n)) (λ e. rw e)

  pub same_is : same x y ≡ true → x ≡ y
  unfolding same
  same_is e = by_bool (eqb x.index y.index) (λ i. by_bool (eqb x.bytes y.bytes) (λ b. equal i b) (λ b. no (sym (rw (i, b) at e)))) (λ i. no (sym (rw i at e)))
    where
      no : true ≡ false → x ≡ y
      no t = let z : ◌≡◌ {A = ℕ} 0 1 = cc in absurd (omega arith)

      equal : eqb x.index y.index ≡ true → eqb x.bytes y.bytes ≡ true → x ≡ y
      equal i b = λ k. record { index = eqb-true x.index y.index i k; bytes = eqb-true x.bytes y.bytes b k }

pub same_self : (x : Entry) → same x x ≡ true
same_self x = same_both x x refl refl

-- ---- beside what stands there

module _ (e : Entry) where
  module _ (p : TilePartEntry) where
    pub agreed_part : same e (pair_of p) ≡ true → agreed_by e (Ok (Some p)) ≡ Some (p.offset.0 + p.length)
    unfolding agreed_by
    agreed_part t = rw t

    pub agreed_other : same e (pair_of p) ≡ false → agreed_by e (Ok (Some p)) ≡ None
    unfolding agreed_by
    agreed_other t = rw t

  -- nothing stands there that is a tile-part
  pub agreed_none : (found : Result (Option TilePartEntry) Refusal) → result_unwrap_or found None ≡ None → agreed_by e found ≡ None
  unfolding agreed_by
  agreed_none (Ok (Some p)) n = absurd (not_true_false (ap is_some n))
  agreed_none (Ok None) n = refl
  agreed_none (Err r) n = refl

  -- the same, where the step is known to be no tile-part
  pub agreed_else : (found : Result (Option TilePartEntry) Refusal) → ((p : TilePartEntry) → found ≡ Ok (Some p) → ⊥) → agreed_by e found ≡ None
  unfolding agreed_by
  agreed_else (Ok (Some p)) none = absurd (none p refl)
  agreed_else (Ok None) none = refl
  agreed_else (Err r) none = refl

-- ---- what stands there

-- a tile-part that is found
pub unwrapped : (found : Result (Option TilePartEntry) Refusal) {p : TilePartEntry} → result_unwrap_or found None ≡ Some p → found ≡ Ok (Some p)
unwrapped (Ok o) u = ap Ok u
unwrapped (Err r) u = absurd (not_true_false (sym (ap is_some u)))

module _ (s : List ℕ) (at : ℕ) where
  pub standing_part : (p : TilePartEntry) → scan_step_at s at ≡ Ok (Some p) → standing s at ≡ pair_of p ∷ standing s (at + p.length)
  unfolding standing
  standing_part p e = rw (entries_part s at p e)

  pub standing_ended : scan_step_at s at ≡ Ok None → standing s at ≡ []
  unfolding standing
  standing_ended e = rw (entries_ended s at e)

  pub standing_refused : (r : Refusal) → scan_step_at s at ≡ Err r → standing s at ≡ []
  unfolding standing
  standing_refused r e = rw (entries_refused s at r e)

  pub standing_next : 0 < length (entries_from s at) → standing s at ≡ pair_of (part_at s at) ∷ standing s (at + (part_at s at).length)
  unfolding standing
  standing_next some = rw (entries_next s at some).entries

  pub standing_none : length (entries_from s at) ≡ 0 → standing s at ≡ []
  unfolding standing
  standing_none zero = by (entries_from s at) zero
    where
      by : (es : List TilePartEntry) → length es ≡ 0 → map pair_of es ≡ []
      by [] e = refl
      by (e ∷ es) z = absurd (omega arith)

-- ---- the comparison

module _ (number at : ℕ) where
  pub compared_same : (x y : Entry) (xs ys : List Entry) → same x y ≡ true → compared number at (x ∷ xs) (y ∷ ys) ≡ compared (number + 1) (at + y.bytes) xs ys
  unfolding compared
  compared_same x y xs ys e = rw e

  pub compared_other : (x y : Entry) (xs ys : List Entry) → same x y ≡ false → compared number at (x ∷ xs) (y ∷ ys) ≡ differing number at (Some (said x)) (Some (said y))
  unfolding compared
  compared_other x y xs ys e = rw e

  -- no entry is left
  pub settled_none : (ys : List Entry) → compared number at [] ys ≡ Ok (settled_as number at ys None)
  unfolding compared settled_as
  settled_none [] = refl
  settled_none (y ∷ ys) = refl

-- ---- the scan's rest

module _ (s : List ℕ) (at : ℕ) (c : Result (Option Difference) Refusal) where
  pub rest_refused : (r : Refusal) → judged (scan_from s at) ≡ Err r → behind_scan (scan_from s at).ended c ≡ Err r
  unfolding behind_scan judged ended_as
  rest_refused r e = by (scan_from s at).ended e
    where
      by : (end : ScanEnd) → ended_as end (length (scan_from s at).visits) ≡ Err r → behind_scan end c ≡ Err r
      by ended e = let z : ◌≡◌ {A = ℕ} 0 1 = cc in absurd (omega arith)
      by (scan.refused q) e = let same : q ≡ r = cc in ap Err same

  pub rest_accepted : (n : ℕ) → judged (scan_from s at) ≡ Ok n → behind_scan (scan_from s at).ended c ≡ c
  unfolding behind_scan
  rest_accepted n e = ap (λ (end : ScanEnd). behind_scan end c) (judged_table s at n e).0

pub rest_counted : (s : List ℕ) (at n : ℕ) → judged (scan_from s at) ≡ Ok n → n ≡ length (entries_from s at)
rest_counted s at n e = sym (judged_table s at n e).1

-- ---- the answer where it stopped

module _ (s : List ℕ) (number at : ℕ) {o : CodestreamOffset} (there : o.0 ≡ at) where
  pub settled_part : (x : Option Said) {p : TilePartEntry} → p ≡ part_at s at → 0 < length (entries_from s at)
      → Some (record { number = number; offset = o; listed = x; standing = Some (said (pair_of p)) }) ≡ settled_as number at (standing s at) x
  unfolding settled_as
  settled_part x is some =
      (λ i. Some (record { number = number; offset = record { 0 = there i }; listed = x; standing = Some (said (pair_of (is i))) }))
      ∙ sym (ap (λ (ys : List Entry). settled_as number at ys x) (standing_next s at some))

  pub settled_entry : (x : Option Said) → is_some x ≡ true → length (entries_from s at) ≡ 0
      → Some (record { number = number; offset = o; listed = x; standing = None }) ≡ settled_as number at (standing s at) x
  unfolding settled_as
  settled_entry (Some x) some none =
      (λ i. Some (record { number = number; offset = record { 0 = there i }; listed = Some x; standing = None }))
      ∙ sym (ap (λ (ys : List Entry). settled_as number at ys (Some x)) (standing_none s at none))
  settled_entry None some none = absurd (not_true_false (sym some))

pub settled_passes : (s : List ℕ) (number at : ℕ) {x : Option Said} → x ≡ None → length (entries_from s at) ≡ 0 → None ≡ settled_as number at (standing s at) x
unfolding settled_as
settled_passes s number at {x} is none = sym (ap (λ (ys : List Entry). settled_as number at ys x) (standing_none s at none) ∙ ap (settled_as number at []) is)

-- ---- an entry that agrees, or not

-- the tile-part that stands there is passed
pub record Passed (s : List ℕ) (at : ℕ) (x : Entry) (end : ℕ) : Type 0 where
  pub part : TilePartEntry
  pub found : scan_step_at s at ≡ Ok (Some part)
  pub like : same x (pair_of part) ≡ true
  pub there : end ≡ at + part.length

to_same : {m n : ℕ} → ◌≡◌ {A = Option ℕ} (Some m) (Some n) → m ≡ n
to_same e = cc

module _ (s : List ℕ) (at : ℕ) (x : Entry) where
  agrees_as : (end : ℕ) (found : Result (Option TilePartEntry) Refusal) → scan_step_at s at ≡ found → agreed_by x found ≡ Some end → Passed s at x end
  unfolding agreed_by
  agrees_as end (Ok (Some p)) e a =
      by_bool (same x (pair_of p))
      (λ t. record { part = p; found = e; like = t; there = sym (to_same (rw t at a)) ∙ ap (λ (o : ℕ). o + p.length) (part_offset s at p e) })
      (λ t. absurd (some_none (sym (rw t at a))))
  agrees_as end (Ok None) e a = absurd (some_none (sym a))
  agrees_as end (Err r) e a = absurd (some_none (sym a))

  pub agrees : (end : ℕ) → agreed_by x (scan_step_at s at) ≡ Some end → Passed s at x end
  agrees end a = agrees_as end (scan_step_at s at) refl a

  module _ (number : ℕ) (xs : List Entry) where
    stopped_as : (found : Result (Option TilePartEntry) Refusal) → scan_step_at s at ≡ found → agreed_by x found ≡ None → compared number at (x ∷ xs) (standing s at) ≡ Ok (settled_as number at (standing s at) (Some (said x)))
    unfolding agreed_by compared settled_as
    stopped_as (Ok (Some p)) e a =
        by_bool (same x (pair_of p))
        (λ t. absurd (some_none (rw t at a)))
        (λ t. rw (standing_part s at p e, t))
    stopped_as (Ok None) e a = rw (standing_ended s at e)
    stopped_as (Err r) e a = rw (standing_refused s at r e)

    -- it does not: the comparison stops there
    pub stopped : agreed_by x (scan_step_at s at) ≡ None → compared number at (x ∷ xs) (standing s at) ≡ Ok (settled_as number at (standing s at) (Some (said x)))
    stopped a = stopped_as (scan_step_at s at) refl a
