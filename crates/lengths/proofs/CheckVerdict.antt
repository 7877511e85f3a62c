-- What the check's answer says, in its rule's sentences: it passes exactly when nothing is refused and the two lists are equal; where it differs at a number, so
-- many entries agree and the next do not; it is refused exactly by the first stage that refuses; a header without entries differs at 0.
use Prim.Native.Nat.{ℕ, suc, ◌+◌, ◌≤◌}
use native.Mathlib.Nat.{zero-add}
use native.Mathlib.Omega.{arith}
use mathlib.Core.Path.{◌≡◌, refl, sym, ap, ap₂, ◌∙◌}
use mathlib.Core.Bool.{false}
use mathlib.Core.List.{List, [], ◌∷◌}
use lib.ListN.{length, take, length-take}
use lib.Dec.{leb, eqb}
use borrow.Author.Tests.{leb-true, leb-false}
use Rattle.std.specs.Prelude.{Option, Some, None, Result, Ok, Err, is_some}
use Rattle.numbers.specs.Bytes.{be}
use Rattle.numbers.proofs.BytesLaws.{be_part}
use Rattle.numbers.proofs.Choice.{by_bool}
use Rattle.types.specs.Markers.{SOT}
use Rattle.types.specs.declared.Refusal.{Refusal}
use Rattle.types.specs.declared.TilePartEntry.{TilePartEntry}
use Rattle.chain.specs.Chain.{end, Chain}
use Rattle.header.specs.Tlm.{Entry, total}
use Rattle.header.specs.Walk.{WalkEnd, at_first_sot, refused, walk_from}
use Rattle.header.specs.Parse.{judged}
use Rattle.header.specs.declared.parse.MainHeaderInfo.{MainHeaderInfo}
use Rattle.header.proofs.WalkLaws.{walk_stops, not_true_false}
use Rattle.header.proofs.WalkItems.{ends_there}
use Rattle.header.proofs.ParseLaws.{judged_read}
use Rattle.parts.specs.Sot.{lsot, psot}
use Rattle.parts.specs.Scan.{ScanEnd, ended, sot_step_at, scan_step_at, scan_from}
use Rattle.parts.specs.Scan as scan
use Rattle.parts.proofs.ScanLaws.{step_short, step_sot, sot_no_eoc, scan_refused}
use Rattle.lengths.specs.Segments.{table_end}
use Rattle.lengths.specs.Check.{pair_of, listed, standing, same, said, differing, compared, behind_scan, behind_table, behind_header, checked, said_at, Compares, Refuses, by_header, by_table, by_scan, DiffersFirst}
use Rattle.lengths.specs.declared.check.Said.{Said}
use Rattle.lengths.specs.declared.check.Difference.{Difference}
use Rattle.lengths.proofs.AgreeLaws.{same_both, same_is, same_self, standing_part}

-- ---- two lists

differs_passes : {d : Difference} → ◌≡◌ {A = Result (Option Difference) Refusal} (Ok (Some d)) (Ok None) → ⊥
differs_passes e = let z : ◌≡◌ {A = ℕ} 0 1 = cc in omega arith

pub refused_passes : {r : Refusal} → ◌≡◌ {A = Result (Option Difference) Refusal} (Err r) (Ok None) → ⊥
refused_passes e = let z : ◌≡◌ {A = ℕ} 0 1 = cc in omega arith

differs_same : {d e : Difference} → ◌≡◌ {A = Result (Option Difference) Refusal} (Ok (Some d)) (Ok (Some e)) → d ≡ e
differs_same e = cc

said_none : {x : Said} → Some x ≡ None → ⊥
said_none e = not_true_false (ap is_some e)

-- equal lists pass
pub equal_passes : (k at : ℕ) (es : List Entry) → compared k at es es ≡ Ok None
unfolding compared
equal_passes k at [] = refl
equal_passes k at (e ∷ es) = rw (same_self e) (equal_passes (k + 1) (at + e.bytes) es)

-- and no others do
pub passes_equal : (k at : ℕ) (xs ys : List Entry) → compared k at xs ys ≡ Ok None → xs ≡ ys
unfolding compared
passes_equal k at [] [] e = refl
passes_equal k at [] (y ∷ ys) e = absurd (differs_passes e)
passes_equal k at (x ∷ xs) [] e = absurd (differs_passes e)
passes_equal k at (x ∷ xs) (y ∷ ys) e =
    by_bool (same x y)
    (λ t. ap₂ ◌∷◌ (same_is x y t) (passes_equal (k + 1) (at + y.bytes) xs ys (rw t at e)))
    (λ t. absurd (differs_passes (rw t at e)))

-- a comparison refuses nothing
compared_refused : (k at : ℕ) (xs ys : List Entry) (r : Refusal) → compared k at xs ys ≡ Err r → ⊥
unfolding compared
compared_refused k at [] [] r e = let z : ◌≡◌ {A = ℕ} 0 1 = cc in omega arith
compared_refused k at [] (y ∷ ys) r e = let z : ◌≡◌ {A = ℕ} 0 1 = cc in omega arith
compared_refused k at (x ∷ xs) [] r e = let z : ◌≡◌ {A = ℕ} 0 1 = cc in omega arith
compared_refused k at (x ∷ xs) (y ∷ ys) r e =
    by_bool (same x y) (λ t. compared_refused (k + 1) (at + y.bytes) xs ys r (rw t at e)) (λ t. other (rw t at e))
  where
    other : {d : Difference} → Ok (Some d) ≡ Err r → ⊥
    other q = let z : ◌≡◌ {A = ℕ} 0 1 = cc in omega arith

unlike_said : (x y : Entry) → same x y ≡ false → Some (said x) ≡ Some (said y) → ⊥
unlike_said x y t e =
    let one : said x ≡ said y = cc in
    let i : x.index ≡ y.index = ap (λ (s : Said). s.tile) one in
    let b : x.bytes ≡ y.bytes = ap (λ (s : Said). s.length) one in
    not_true_false (sym (same_both x y i b) ∙ t)

-- where two lists differ: n entries behind the first
record Differs (k at : ℕ) (xs ys : List Entry) (d : Difference) : Type 0 where
  n : ℕ
  number : d.number ≡ k + n
  first : DiffersFirst n at xs ys d

at_first : (k at : ℕ) (xs ys : List Entry) {x y : Option Said} (d : Difference) → said_at 0 xs ≡ x → said_at 0 ys ≡ y → (x ≡ y → ⊥) → differing k at x y ≡ Ok (Some d)
    → Differs k at xs ys d
unfolding total
at_first k at xs ys {x} {y} d isx isy other e =
    let same = differs_same e in
    record {
      n = 0;
      number = omega (arith, ap (λ (f : Difference). f.number) same);
      first = record {
        alike = refl;
        unlike = λ q. other (sym isx ∙ q ∙ isy);
        listed = sym (ap (λ (f : Difference). f.listed) same) ∙ sym isx;
        standing = sym (ap (λ (f : Difference). f.standing) same) ∙ sym isy;
        offset = sym (ap (λ (f : Difference). f.offset.0) same) ∙ none;
      };
    }
  where
    none : at ≡ at + total (take 0 xs)
    none = omega arith

differs_at : (k at : ℕ) (xs ys : List Entry) (d : Difference) → compared k at xs ys ≡ Ok (Some d) → Differs k at xs ys d
unfolding compared said_at total
differs_at k at [] [] d e = absurd (differs_passes (sym e))
differs_at k at [] (y ∷ ys) d e = at_first k at [] (y ∷ ys) d refl refl (λ q. said_none (sym q)) e
differs_at k at (x ∷ xs) [] d e = at_first k at (x ∷ xs) [] d refl refl said_none e
differs_at k at (x ∷ xs) (y ∷ ys) d e =
    by_bool (same x y)
    (λ t.
    let more = differs_at (k + 1) (at + y.bytes) xs ys d (rw t at e) in
    let f = more.first in
    let alike = same_is x y t in
    let size = ap (λ (z : Entry). z.bytes) alike in
    let number = more.number in
    let offset = f.offset in
    record {
      n = suc more.n;
      number = omega arith;
      first = record {
        alike = ap₂ ◌∷◌ alike f.alike;
        unlike = f.unlike;
        listed = f.listed;
        standing = f.standing;
        offset = omega arith;
      };
    })
    (λ t. at_first k at (x ∷ xs) (y ∷ ys) d refl refl (unlike_said x y t) (rw t at e))

-- ---- the stages

module _ (s : List ℕ) (region : ℕ) where
  abbrev head : List ℕ
  head = take region s

  -- nothing is refused: the answer is the comparison's
  pub checked_compares : {p : ℕ} → Compares s region p → checked s region ≡ compared 0 p (listed head) (standing s p)
  unfolding checked behind_header behind_table behind_scan
  checked_compares c = rw (c.header, c.table, c.first, c.scan)

  -- something is: so is the answer
  pub checked_refuses : (r : Refusal) → Refuses s region r → checked s region ≡ Err r
  unfolding checked behind_header behind_table behind_scan
  checked_refuses r (by_header e) = rw e
  checked_refuses r (by_table info e t) = rw (e, t)
  checked_refuses r (by_scan info e t c) = rw (e, t, c)

  -- one of the two is so
  data Stage : Type 0 where
    compares : (p : ℕ) → Compares s region p → Stage
    refuses : (r : Refusal) → Refuses s region r → Stage

  by_scan_lem : (info : MainHeaderInfo) → judged head ≡ Ok info → table_end head ≡ at_first_sot → (end : ScanEnd)
      → (scan_from s info.first_sot_offset.0).ended ≡ end → Stage
  by_scan_lem info e t ended c = compares info.first_sot_offset.0 (record { info = info; header = e; first = refl; table = t; scan = c })
  by_scan_lem info e t (scan.refused r) c = refuses r (by_scan info e t c)

  by_table_lem : (info : MainHeaderInfo) → judged head ≡ Ok info → (end : WalkEnd) → table_end head ≡ end → Stage
  by_table_lem info e at_first_sot t = by_scan_lem info e t (scan_from s info.first_sot_offset.0).ended refl
  by_table_lem info e (refused r) t = refuses r (by_table info e t)

  by_header_lem : (answer : Result MainHeaderInfo Refusal) → judged head ≡ answer → Stage
  by_header_lem (Ok info) e = by_table_lem info e (table_end head) refl
  by_header_lem (Err r) e = refuses r (by_header e)

  stage : Stage
  stage = by_header_lem (judged head) refl

  -- ---- in sentences

  refused_differs : {r : Refusal} {d : Difference} → ◌≡◌ {A = Result (Option Difference) Refusal} (Err r) (Ok (Some d)) → ⊥
  refused_differs e = let z : ◌≡◌ {A = ℕ} 0 1 = cc in omega arith

  -- it passes: nothing is refused, and the entries are the scan's
  pub passes_only : checked s region ≡ Ok None → (p : ℕ) × Compares s region p × (listed head ≡ standing s p)
  passes_only e = by stage
    where
      by : Stage → (p : ℕ) × Compares s region p × (listed head ≡ standing s p)
      by (compares p c) = (p, c, passes_equal 0 p (listed head) (standing s p) (sym (checked_compares c) ∙ e))
      by (refuses r q) = absurd (refused_passes (sym (checked_refuses r q) ∙ e))

  -- and passes wherever that is so
  pub passes_where : {p : ℕ} → Compares s region p → listed head ≡ standing s p → checked s region ≡ Ok None
  passes_where {p} c e = checked_compares c ∙ ap (λ (es : List Entry). compared 0 p es (standing s p)) e ∙ equal_passes 0 p (standing s p)

  -- it differs at a number: so many entries are the same, and the next are not
  pub differs_first : (d : Difference) → checked s region ≡ Ok (Some d) → (p : ℕ) × Compares s region p × DiffersFirst d.number p (listed head) (standing s p) d
  differs_first d e = by stage
    where
      by : Stage → (p : ℕ) × Compares s region p × DiffersFirst d.number p (listed head) (standing s p) d
      by (compares p c) =
          let f = differs_at 0 p (listed head) (standing s p) d (sym (checked_compares c) ∙ e) in
          let is : f.n ≡ d.number = omega (arith, f.number) in
          (p, c, rw is at f.first)
      by (refuses r q) = absurd (refused_differs (sym (checked_refuses r q) ∙ e))

  -- it is refused: by the first stage that refuses
  pub refused_only : (r : Refusal) → checked s region ≡ Err r → Refuses s region r
  refused_only r e = by stage
    where
      by : Stage → Refuses s region r
      by (compares p c) = absurd (compared_refused 0 p (listed head) (standing s p) r (sym (checked_compares c) ∙ e))
      by (refuses q f) = let is : q ≡ r = cc (sym (checked_refuses q f) ∙ e) in rw is at f

-- ---- a header without entries

sot_not_ended : (s : List ℕ) (at : ℕ) → sot_step_at s at ≡ Ok None → ⊥
unfolding sot_step_at
sot_not_ended s at e =
    by_bool (eqb (lsot s at) 10)
    (λ a. by_bool (eqb (psot s at) 0)
    (λ b. no_part (rw (a, b) at e))
    (λ b. by_bool (leb (at + psot s at) (length s)) (λ c. no_part (rw (a, b, c) at e)) (λ c. no_refusal (rw (a, b, c) at e))))
    (λ a. no_refusal (rw a at e))
  where
    no_part : {p : TilePartEntry} → ◌≡◌ {A = Result (Option TilePartEntry) Refusal} (Ok (Some p)) (Ok None) → ⊥
    no_part q = let z : ◌≡◌ {A = ℕ} 0 1 = cc in omega arith

    no_refusal : {r : Refusal} → ◌≡◌ {A = Result (Option TilePartEntry) Refusal} (Err r) (Ok None) → ⊥
    no_refusal q = let z : ◌≡◌ {A = ℕ} 0 1 = cc in omega arith

short_not_ended : {r : Refusal} → ◌≡◌ {A = Result (Option TilePartEntry) Refusal} (Err r) (Ok None) → ⊥
short_not_ended q = let z : ◌≡◌ {A = ℕ} 0 1 = cc in omega arith

-- where SOT stands a scan does not end
not_ended : (s : List ℕ) (at : ℕ) → at + 2 ≤ length s → be 2 s at ≡ SOT → scan_step_at s at ≡ Ok None → ⊥
not_ended s at inside marker e =
    by_bool (leb (at + 12) (length s))
    (λ t. sot_not_ended s at (sym (step_sot s at (omega arith) (sot_no_eoc s at marker) (leb-true (at + 12) (length s) t) marker) ∙ e))
    (λ t. short_not_ended (sym (step_short s at (omega arith) (sot_no_eoc s at marker) (leb-false (at + 12) (length s) t)) ∙ e))

module _ (s : List ℕ) (region p : ℕ) (c : Compares s region p) where
  -- the first SOT stands in the whole, too
  sot_there : (p + 2 ≤ length s) × (be 2 s p ≡ SOT)
  sot_there =
      let h : List ℕ = take region s in
      let r = judged_read h c.info c.header in
      let there : (walk_from h 2).stopped ≡ p = sym r.first ∙ c.first in
      let t = ends_there h (walk_from h 2).stopped (walk_stops h 2 ∙ ap end r.ends) in
      let inside : p + 2 ≤ length h = omega (arith, t.0) in
      let long = length-take region s in
      (omega arith, ap (be 2 s) (sym (zero-add p)) ∙ sym (be_part 2 s 0 region p (omega arith)) ∙ ap (be 2 h) (sym there) ∙ t.1)

  -- a codestream that is accepted has a tile-part
  pub some_standing : (y : Entry) × (ys : List Entry) × (standing s p ≡ y ∷ ys)
  some_standing = by (scan_step_at s p) refl
    where
      by : (found : Result (Option TilePartEntry) Refusal) → scan_step_at s p ≡ found → (y : Entry) × (ys : List Entry) × (standing s p ≡ y ∷ ys)
      by (Ok (Some e)) f = (pair_of e, standing s (p + e.length), standing_part s p e f)
      by (Ok None) f = absurd (not_ended s p sot_there.0 sot_there.1 f)
      by (Err r) f =
          let q : ◌≡◌ {A = ScanEnd} (scan.refused r) ended = sym (ap (λ (k : Chain ScanEnd). k.ended) (scan_refused s p r f)) ∙ c.scan in
          absurd (let z : ◌≡◌ {A = ℕ} 0 1 = cc in omega arith)

  -- so one without entries differs at 0, from the first tile-part
  pub none_differs : listed (take region s) ≡ [] → (y : Entry) × (checked s region ≡ differing 0 p None (Some (said y)))
  unfolding compared
  none_differs none =
      let t = some_standing in
      (t.0, checked_compares s region c ∙ rw (none, t.2))
