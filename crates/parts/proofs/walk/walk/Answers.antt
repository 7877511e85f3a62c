-- At the loop's head each mark has a stride of records behind it, all these were counted, and the stride is doubled as their number has it. Every other mark
-- has twice the stride; a full pass has one stride more; and where the scan ends, the marks give the runs.
use Prim.Native.Nat.{ℕ, ◌^◌, ◌+◌, ◌*◌, ◌<◌}
use native.Mathlib.Nat.{add-mul, mul-le-mul_right}
use native.Mathlib.Omega.{arith}
use mathlib.Core.List.{List}
use mathlib.Core.Path.{◌≡◌, refl, sym, ap, ◌∙◌}
use lib.ListN.{length, get_or, set, length-set}
use lib.Seq.{get_or-set_same}
use Rattle.std.specs.Prelude.{None, Ok}
use Rattle.parts.proofs.WalkLaws.{reached_start, reached_on, reached_few, reached_all, reached_ended, reached_refused, Marked, marked_none, marked_halved, marked_more, marked_quarters, doubled_none, doubled_more, doubled_on, doubled_last, quarters_all}
use Rattle.parts.specs.declared.walk.Passed.{Passed}
use Rattle.parts.specs.declared.walk.Quarters.{Quarters}
use Rattle.parts.specs.Scan.{scan_step_at, scan_from, judged}
use Rattle.parts.specs.Walk.{Reached, Passes, Halved, quarters_by, Quartered, walked_as}
use Rattle.parts.proofs.walk.walk.Invariants.{Going}
use Rattle.parts.proofs.walk.walk.Goals as goal
use Rattle.parts.proofs.walk.walk.Goals.{Joined-used-eq64, In-Full, then-used-eq64, else-used-eq64}

module _ {s : List ℕ} {start : ℕ} {marks : List ℕ} {stride at count : ℕ} where
  halved : {after : List ℕ} → length s < 2 ^ 64 → Halved marks after → Going s start marks 64 stride at count
      → Going s start after 32 (2 * stride) at count
  halved short h g =
      record {
        few = omega arith;
        size = h.size ∙ g.size;
        some = omega arith;
        small = omega (arith, reached_few g.reached);
        even = omega arith;
        reached = g.reached;
        marked = marked_halved h g.marked;
        doubled = doubled_more g.small g.even g.doubled;
        begun = λ e. absurd (omega arith);
      }

  module _ {used : ℕ} (room : used < 64) (g : Going s start marks used stride at count) where
    more : Marked s start stride (used + 1) (set marks used at)
    more = marked_more (omega arith) (rw g.even at g.reached) g.marked

    module _ {p : Passed} (h : Passes s at stride p) where
      on : Reached s start p.at (count + p.count)
      on = reached_on g.reached h.reached

      full : p.count ≡ stride → Going s start (set marks used at) (used + 1) stride p.at (count + p.count)
      full all =
          record {
            few = omega arith;
            size = length-set marks used at ∙ g.size;
            some = g.some;
            small = g.small;
            even = omega (arith, add-mul used 1 stride);
            reached = on;
            marked = more;
            doubled = doubled_on p.count g.doubled;
            begun = λ e. absurd (omega arith);
          }

      -- the scan ends behind less than a stride
      abbrev runs : Quarters
      runs = quarters_by (count + p.count) stride (used + 1) (set marks used at)

      last : p.count < stride → scan_step_at s p.at ≡ Ok None → (Ok runs ≡ walked_as s start (judged (scan_from s start))) × Quartered s start runs
      unfolding walked_as
      last less ended =
          let q = marked_quarters used (count + p.count) g.some (omega (arith, g.even)) (reached_all ended on) more in
          let below : count + p.count < (used + 1) * stride = omega (arith, g.even, add-mul used 1 stride) in
          let most = mul-le-mul_right {m = used + 1} {n = 64} stride (omega arith) in
          let first : used ≡ 0 → get_or (set marks used at) 0 0 ≡ start = λ z. rw z (get_or-set_same marks 0 at 0 (omega (arith, g.size)) ∙ g.begun z) in
          let stride-is = doubled_last (omega arith) (doubled_on p.count g.doubled) in
          (ap Ok (quarters_all stride (set marks used at) (omega (arith, g.even)) below first q stride-is) ∙ ap (walked_as s start) (reached_ended ended on), q)

-- behind the halving there is room
halving : (c : Joined-used-eq64)
    → (c.if-used-eq64.used < 64) × Going c.args.codestream.now c.args.start c.if-used-eq64.marks c.if-used-eq64.used c.if-used-eq64.stride c.loop-used.at c.loop-used.count
halving c =
    elim c.if-used-eq64.branch [
      | then-used-eq64 w ↦
          (omega arith, rw (w.marks-is, w.used-is, w.stride-is) (halved (omega arith) w.halve.ensures (rw w.if-used-eq64.true at c.loop-used.invariant)))
      | else-used-eq64 w ↦ (omega arith, rw (w.marks-is, w.used-is, w.stride-is) c.loop-used.invariant)
    ]

-- a full pass
filled : (c : In-Full) → c.pass-passed.result.count ≡ c.if-used-eq64.stride
filled c = rw c.in-Full.is at c.pass-passed.ensures.stopped

pub loop-used-init : goal.loop-used-init
loop-used-init c =
    record {
      few = omega arith;
      size = refl;
      some = omega arith;
      small = omega arith;
      even = omega arith;
      reached = reached_start;
      marked = marked_none;
      doubled = doubled_none;
      begun = λ e. refl;
    }

pub halve-requires : goal.halve-requires
halve-requires c = c.loop-used.invariant.size

pub overflow_mul-stride : goal.overflow_mul-stride
overflow_mul-stride c = omega (arith, c.loop-used.invariant.small)

pub offset_bounds-marks-used : goal.offset_bounds-marks-used
offset_bounds-marks-used c = omega (arith, (halving (goal.at.offset_bounds-marks-used c).Joined-used-eq64).0)

pub bounds-marks-used : goal.bounds-marks-used
bounds-marks-used c = (halving (goal.at.bounds-marks-used c).Joined-used-eq64).0

pub overflow_add-used : goal.overflow_add-used
overflow_add-used c = omega (arith, (halving (goal.at.overflow_add-used c).Joined-used-eq64).0)

pub overflow_add-count : goal.overflow_add-count
overflow_add-count c =
    let h = halving (goal.at.overflow_add-count c).Joined-used-eq64 in omega (arith, reached_few (on h.0 h.1 c.pass-passed.ensures))

pub loop-used-smaller : goal.loop-used-smaller
loop-used-smaller c =
    let h = halving (goal.at.loop-used-smaller c).Joined-used-eq64 in
    omega (arith, c.pass-passed.ensures.reached.counted, filled c, h.1.some)

pub loop-used-preserved : goal.loop-used-preserved
loop-used-preserved c =
    let h = halving (goal.at.loop-used-preserved c).Joined-used-eq64 in
    full h.0 h.1 c.pass-passed.ensures (filled c)

pub quarter-requires : goal.quarter-requires
quarter-requires c =
    let h = halving (goal.at.quarter-requires c).Joined-used-eq64 in record { used_bound = omega (arith, h.0); stride_bound = h.1.small }

pub returns-in-Ended : goal.returns-in-Ended
returns-in-Ended c =
    let h = halving (goal.at.returns-in-Ended c).Joined-used-eq64 in
    let ended = rw c.in-Ended.is at c.pass-passed.ensures.stopped in
    let answer = rw (sym c.quarter.ensures) at (last h.0 h.1 c.pass-passed.ensures ended.0 ended.1) in
    record { value = answer.0; runs = answer.1 }

pub returns-in-Refused : goal.returns-in-Refused
unfolding walked_as
returns-in-Refused c =
    let h = halving (goal.at.returns-in-Refused c).Joined-used-eq64 in
    record {
      value =
          ap (walked_as _ _) (reached_refused (rw c.in-Refused.is at c.pass-passed.ensures.stopped) (on h.0 h.1 c.pass-passed.ensures));
      runs = tt;
    }
