-- How far a walk has come, and its marks: tile-parts passed one after the other leave the records behind them, and by marks that stand
-- evenly the runs of `quarters_by` do, which are those of `quarters_of`.
use Prim.Native.Nat.{ℕ, zero, suc, ◌^◌, ◌+◌, ◌-◌, ◌*◌, ◌/◌, ◌≤◌, ◌<◌}
use native.Mathlib.Nat.{eq-or-lt_of_le, eq-zero-or-pos, mul_comm, mul_assoc, zero-mul, suc-mul, mul-le-mul_right, pow-succ', div-eq_of_lt-le, zero-div}
use native.Mathlib.Omega.{arith}
use mathlib.Core.Path.{◌≡◌, refl, sym, ap, ap₂, ◌∙◌}
use mathlib.Core.Logic.{⊎_elim}
use mathlib.Core.List.{List}
use lib.ListN.{length, get_or, drop, set, length-map, length-drop, get_or-eq_default}
use borrow.Author.Tests.{lt-ltb, le-ltb}
use lib.Seq.{drop-drop, drop-cons, get_or-set_same, get_or-set_other}
use Rattle.std.specs.Prelude.{Some, None, Result, Ok, Err}
use Rattle.chain.specs.Chain.{Visit, Chain, Run, stay, step, also}
use Rattle.chain.proofs.ChainLaws.{chain_run}
use Rattle.types.specs.declared.Refusal.{Refusal}
use Rattle.types.specs.declared.TilePartEntry.{TilePartEntry}
use Rattle.parts.specs.Scan.{part_at, scan_step_at, ScanEnd, ended, move_at, scan_from, recorded, entries_from, ended_as, judged}
use Rattle.parts.specs.Walk.{Reached, Halved, quarters_by, Quartered, stride_up, stride_of, turns_of, place_of, quarters_of, walked_as}
use Rattle.parts.specs.declared.walk.Quarters.{Quarters}
use Rattle.parts.proofs.ScanLaws.{part_offset, move_passed, rises, stop, scan_ended, scan_refused, scan_part, entries_ended, entries_part, entries_next}

-- ---- a scan has no more records than the codestream has bytes

few_run : (s : List ℕ) {at to : ℕ} {visits : List Visit} → Run (move_at s) at visits to → length visits ≤ length s - at
few_run s stay = omega arith
few_run s (step {at = at} {next = next} moved past rest) = let p = move_passed s at next moved in let h = few_run s rest in omega arith

pub entries_few : (s : List ℕ) (at : ℕ) → length (entries_from s at) ≤ length s - at
unfolding entries_from scan_from
entries_few s at = rw (length-map (scan_from s at).visits (recorded s)) (few_run s (chain_run ended (move_at s) (length s) (rises s) at))

-- ---- so many records lie between two positions

module _ {s : List ℕ} {start : ℕ} where
  pub reached_start : Reached s start start 0
  reached_start = record { counted = omega arith; rest = refl; ends = refl }

  reached_part : {e : TilePartEntry} → scan_step_at s start ≡ Ok (Some e) → Reached s start (start + e.length) 1
  unfolding also
  reached_part {e} p =
      let all = entries_part s start e p in
      record {
        counted = omega (arith, ap length all);
        rest = sym (ap (drop 1) all);
        ends = sym (ap (λ (c : Chain ScanEnd). c.ended) (scan_part s start e p));
      }

  pub reached_on : {at to count more : ℕ} → Reached s start at count → Reached s at to more → Reached s start to (count + more)
  reached_on {at} {to} {count} {more} i j =
      record {
        counted = omega (arith, i.counted, j.counted);
        rest = j.rest ∙ ap (drop more) i.rest ∙ drop-drop more count (entries_from s start);
        ends = j.ends ∙ i.ends;
      }

  -- no more than the codestream has bytes
  pub reached_few : {at count : ℕ} → Reached s start at count → count ≤ length s
  reached_few i = omega (arith, i.counted, entries_few s start)

  pub reached_all : {at count : ℕ} → scan_step_at s at ≡ Ok None → Reached s start at count → count ≡ length (entries_from s start)
  reached_all {at} e i = omega (arith, i.counted, ap length (entries_ended s at e))

  -- where the scan stops, all were counted
  reached_last : {at count : ℕ} {a : ScanEnd} → scan_from s at ≡ stop at a → Reached s start at count → ended_as a count ≡ judged (scan_from s start)
  unfolding judged entries_from
  reached_last {at} e i =
      let visits = ap (λ (c : Chain ScanEnd). length c.visits) e in
      let here = length-map (scan_from s at).visits (recorded s) in
      let all = length-map (scan_from s start).visits (recorded s) in
      ap₂ ended_as (sym (ap (λ (c : Chain ScanEnd). c.ended) e) ∙ i.ends) (omega (arith, i.counted))

  pub reached_ended : {at count : ℕ} → scan_step_at s at ≡ Ok None → Reached s start at count → Ok count ≡ judged (scan_from s start)
  unfolding ended_as
  reached_ended {at} e i = reached_last (scan_ended s at e) i

  pub reached_refused : {at count : ℕ} {r : Refusal} → scan_step_at s at ≡ Err r → Reached s start at count
      → Err r ≡ judged (scan_from s start)
  unfolding ended_as
  reached_refused {at} {count} {r} e i = reached_last (scan_refused s at r e) i

-- a tile-part more
pub reached_next : {s : List ℕ} {start at to count : ℕ} {e : TilePartEntry} → scan_step_at s at ≡ Ok (Some e) → to ≡ e.offset.0 + e.length
    → Reached s start at count → Reached s start to (count + 1)
reached_next {s} {start} {at} {to} {count} {e} p there i =
    let end : to ≡ at + e.length = there ∙ ap (λ (o : ℕ). o + e.length) (part_offset s at e p) in
    rw end (reached_on i (reached_part p))

-- ---- marks: before each stand as many records as its index times the stride

pub record Marked (s : List ℕ) (start stride used : ℕ) (marks : List ℕ) : Type 0 where
  pub stands : (j : ℕ) → j < used → entries_from s (get_or marks j 0) ≡ drop (j * stride) (entries_from s start)

module _ {s : List ℕ} {start stride : ℕ} where
  pub marked_none : {marks : List ℕ} → Marked s start stride 0 marks
  marked_none = record { stands = λ j below. absurd (omega arith) }

  pub marked_halved : {before after : List ℕ} → Halved before after → Marked s start stride 64 before → Marked s start (2 * stride) 32 after
  marked_halved h m = record {
    stands = λ j below.
        let twice : 2 * j * stride ≡ j * (2 * stride) = ap (λ (n : ℕ). n * stride) (mul_comm 2 j) ∙ mul_assoc j 2 stride in
        ap (entries_from s) (h.kept j below) ∙ m.stands (2 * j) (omega arith) ∙ ap (λ (n : ℕ). drop n (entries_from s start)) twice;
  }

  pub marked_more : {at used : ℕ} {marks : List ℕ} → used < length marks → Reached s start at (used * stride) → Marked s start stride used marks
      → Marked s start stride (used + 1) (set marks used at)
  marked_more {at} {used} {marks} room i m = record {
    stands = λ j below.
        ⊎_elim (λ (e : j ≡ used). rw e (ap (entries_from s) (get_or-set_same marks used at 0 room) ∙ i.rest))
        (λ (e : j < used). ap (entries_from s) (get_or-set_other marks used j at 0 (λ same. omega arith)) ∙ m.stands j e)
        (eq-or-lt_of_le (omega arith));
  }

  -- the runs by them, where each mark but the last has a stride of records behind it
  pub marked_quarters : (used count : ℕ) {marks : List ℕ} → 0 < stride → used * stride ≤ count → count ≡ length (entries_from s start)
      → Marked s start stride (used + 1) marks → Quartered s start (quarters_by count stride (used + 1) marks)
  marked_quarters used count {marks} some passed all m =
      let b : ℕ = (used + 1 - 2) / 4 in
      let run : (n : ℕ) → n * b ≤ used → entries_from s (get_or marks (n * b) 0) ≡ drop (n * (b * stride)) (entries_from s start)
      = λ n h. m.stands (n * b) (omega arith) ∙ ap (λ (k : ℕ). drop k (entries_from s start)) (mul_assoc n b stride) in
      record {
        parts = all;
        followed = ⊎_elim (λ (z : b ≡ 0). rw z (omega (arith, zero-mul stride)))
            (λ (p : 0 < b). let h : suc (4 * b) ≤ used = omega arith in omega (arith, mul-le-mul_right stride h, suc-mul (4 * b) stride, mul_assoc 4 b stride))
            (eq-zero-or-pos b);
        second = m.stands b (omega arith);
        third = run 2 (omega arith);
        fourth = run 3 (omega arith);
      }

-- ---- the stride

-- it was doubled as `stride_of` doubles it for count records and for any more, and can be as often again as they need
pub record Doubled (stride count : ℕ) : Type 0 where
  pub often : ℕ
  pub far : 2 ^ 59 ≤ stride * 2 ^ often
  pub same : (n : ℕ) → count ≤ n → stride_of n ≡ stride_up often stride n

pub doubled_none : Doubled 2 0
unfolding stride_of
doubled_none = record { often = 64; far = omega arith; same = λ n h. refl }

-- 64 strides were counted
doubled_once : {stride count : ℕ} (often : ℕ) → stride < 2 ^ 59 → count ≡ 64 * stride → 2 ^ 59 ≤ stride * 2 ^ often
    → ((n : ℕ) → count ≤ n → stride_of n ≡ stride_up often stride n) → Doubled (2 * stride) count
unfolding stride_up
doubled_once {stride} {count} zero small all far same = absurd (omega arith)
doubled_once {stride} {count} (suc k) small all far same =
    record {
      often = k;
      far = omega (arith, ap (λ (m : ℕ). stride * m) (pow-succ' 2 k), mul_assoc stride 2 (2 ^ k), mul_comm stride 2);
      same = λ n h. same n h ∙ rw (le-ltb n (64 * stride) (omega arith));
    }

pub doubled_more : {stride count : ℕ} → stride < 2 ^ 59 → count ≡ 64 * stride → Doubled stride count → Doubled (2 * stride) count
doubled_more small all d = doubled_once d.often small all d.far d.same

pub doubled_on : {stride count : ℕ} (more : ℕ) → Doubled stride count → Doubled stride (count + more)
doubled_on more d = record { often = d.often; far = d.far; same = λ n h. d.same n (omega arith) }

stride_here : (often stride n : ℕ) → n < 64 * stride → stride_up often stride n ≡ stride
unfolding stride_up
stride_here zero stride n few = refl
stride_here (suc often) stride n few = rw (lt-ltb n (64 * stride) few)

pub doubled_last : {stride count : ℕ} → count < 64 * stride → Doubled stride count → stride_of count ≡ stride
doubled_last {stride} {count} few d = d.same count (omega arith) ∙ stride_here d.often stride count few

-- ---- the runs by the marks are the scan's

module _ (s : List ℕ) (start at k : ℕ) (rest : entries_from s at ≡ drop k (entries_from s start)) where
  -- where k records of more lie before it
  stands_at : k < length (entries_from s start) → at ≡ place_of s start k
  stands_at more =
      let es : List TilePartEntry = entries_from s start in
      let n = entries_next s at (omega (arith, ap lib.ListN.length rest, length-drop k es)) in
      let cut = drop-cons es k (part_at s start) more in
      let same : part_at s at ≡ get_or es k (part_at s start) = cc in
      ap (λ (e : TilePartEntry). e.offset.0) same

  placed : k ≤ length (entries_from s start) - 1 → (length (entries_from s start) ≡ 0 → at ≡ start) → at ≡ place_of s start k
  placed before none =
      let es : List TilePartEntry = entries_from s start in
      ⊎_elim
      (λ (z : length es ≡ 0). none z ∙ ap (λ (e : TilePartEntry). e.offset.0) (sym (get_or-eq_default es (part_at s start) (omega arith))))
      (λ (p : 0 < length es). stands_at (omega arith)) (eq-zero-or-pos (length es))

same_quarters : {n t u a b c d e f : ℕ} → t ≡ u → a ≡ d → b ≡ e → c ≡ f
    → ◌≡◌ {A = Quarters} (record { parts = n; turns = t; second = a; third = b; fourth = c }) (record { parts = n; turns = u; second = d; third = e; fourth = f })
same_quarters x y z w = cc

-- where less than a stride follows the last mark, and the first one is the start
module _ {s : List ℕ} {start used count : ℕ} (stride : ℕ) (marks : List ℕ) (low : used * stride ≤ count) (high : count < (used + 1) * stride)
    (first : used ≡ 0 → get_or marks 0 0 ≡ start) (q : Quartered s start (quarters_by count stride (used + 1) marks)) where
  begins : (m : ℕ) → m ≤ used → length (entries_from s start) ≡ 0 → get_or marks m 0 ≡ start
  begins m h z =
      let none : used ≡ 0 = sym (div-eq_of_lt-le stride low high) ∙ ap (λ (n : ℕ). n / stride) (q.parts ∙ z) ∙ zero-div stride in
      let same : m ≡ 0 = omega arith in
      ap (λ (k : ℕ). get_or marks k 0) same ∙ first none

  pub quarters_all : stride_of count ≡ stride → quarters_by count stride (used + 1) marks ≡ quarters_of s start count
  unfolding quarters_of
  quarters_all is =
      let b : ℕ = (used + 1 - 2) / 4 in
      let turns : b * stride ≡ turns_of count = rw (is, div-eq_of_lt-le stride low high) (ap (λ (n : ℕ). n / 4 * stride) (omega arith)) in
      same_quarters turns
      (placed s start _ _ q.second (omega (arith, q.parts, q.followed)) (begins b (omega arith)) ∙ ap (place_of s start) turns)
      (placed s start _ _ q.third (omega (arith, q.parts, q.followed)) (begins (2 * b) (omega arith)) ∙ ap (λ (k : ℕ). place_of s start (2 * k)) turns)
      (placed s start _ _ q.fourth (omega (arith, q.parts, q.followed)) (begins (3 * b) (omega arith)) ∙ ap (λ (k : ℕ). place_of s start (3 * k)) turns)

-- ---- what a walk answers of the scan

unfoldable pub told : Result Quarters Refusal → Result ℕ Refusal
told (Ok q) = Ok q.parts
told (Err r) = Err r

pub told_as : (s : List ℕ) (start : ℕ) (a : Result ℕ Refusal) → told (walked_as s start a) ≡ a
unfolding quarters_of walked_as told
told_as s start (Ok n) = refl
told_as s start (Err r) = refl
