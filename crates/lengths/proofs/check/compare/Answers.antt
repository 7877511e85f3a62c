-- What is left of both lists is answered as the whole, entry by entry within a segment, and segment by segment.
use Prim.Native.Nat.{◌<◌, ◌≤◌}
use native.Mathlib.Omega.{arith}
use mathlib.Core.Path.{sym, ◌∙◌}
use lib.ListN.{length}
use Rattle.lengths.proofs.PlacesNumbered.{noted_accepted, first_fits}
use Rattle.lengths.proofs.CheckCompared.{matching_start, matching_on, on_past, comparing_start, comparing_none, comparing_on, numbers_fit, stops_whole, stops_inside, stopped_answers}
use Rattle.lengths.proofs.check.compare.Goals as goal
use Rattle.lengths.proofs.check.compare.Goals.{In-Some, then-segment-ne0+else-loop-i-test, else-segment-ne0, then-loop-segment-test+then-segment-ne0+then-loop-i-test+in_default, else-loop-segment-test}

pub loop-segment-init : goal.loop-segment-init
loop-segment-init c = comparing_start _ _ _ (λ i. omega (arith, c.type_inv.header i)) c.requires.header_value

pub entry_count-count-requires : goal.entry_count-count-requires
entry_count-count-requires c = noted_accepted c.if-segment-ne0.true (c.requires.noted _ c.loop-segment-test.true)

pub loop-i-init : goal.loop-i-init
loop-i-init c = matching_start _ _ _ _ _ _ _ c.loop-segment.invariant.few

pub tlm_entry-entry-requires-clause-at_bound : goal.tlm_entry-entry-requires-clause-at_bound
tlm_entry-entry-requires-clause-at_bound c =
    let noted = c.requires.noted _ c.loop-segment-test.true in
    first_fits _ _ _ (λ i. omega (arith, c.type_inv.header i)) (numbers_fit _ _ _ _ _ _ _ c.loop-segment.invariant c.loop-segment-test.true noted c.if-segment-ne0.true)

-- where the tile-part that agrees with an entry ends
past : (c : In-Some) → (c.loop-i.at < c.in-Some.end) × (c.in-Some.end ≤ length c.args.codestream.now)
past c = on_past _ _ _ _ _ _ _ _ _ _ c.loop-i.invariant c.loop-i-test.true c.tlm_entry-entry.ensures _ (sym c.in-Some.ensures)

pub overflow_add-number : goal.overflow_add-number
overflow_add-number c = omega (arith, past c, c.loop-i.invariant.few)

pub loop-i-preserved : goal.loop-i-preserved
loop-i-preserved c = matching_on _ _ _ _ _ _ _ _ _ _ c.loop-i.invariant c.loop-i-test.true c.tlm_entry-entry.ensures _ (sym c.in-Some.ensures)

pub loop-segment-preserved : goal.loop-segment-preserved
loop-segment-preserved c =
    let l = c.loop-segment.invariant in
    let left = c.loop-segment-test.true in
    let noted = c.requires.noted _ left in
    elim c.if-segment-ne0.branch [
      | then-segment-ne0+else-loop-i-test w ↦
          rw (w.at-is, w.number-is, w.first-is)
          (comparing_on _ _ _ _ _ _ _ l left noted w.if-segment-ne0.true w.entry_count-count.ensures w.loop-i.invariant w.loop-i-test.false w.next_number-first.ensures)
      | else-segment-ne0 w ↦ rw (w.at-is, w.number-is, w.first-is) (comparing_none _ _ _ _ _ _ _ l left noted w.if-segment-ne0.false)
    ]

-- where it stopped, the answer is the whole's; the loop's start is the first SOT
pub returns : goal.returns
returns c =
    let l = c.loop-segment.invariant in
    rw (← c.position-at.ensures)
    (c.settle.ensures
    ∙ stopped_answers _ _ _ _ _
    (elim c.loop-segment-test.branch [
      | then-loop-segment-test+then-segment-ne0+then-loop-i-test+in_default w ↦
          let left = w.loop-segment-test.true in
          rw (w.at-is, w.stop-is, w.stop_at-stop.ensures)
          (stops_inside _ _ _ _ _ _ _ l left (c.requires.noted _ left) w.if-segment-ne0.true w.entry_count-count.ensures w.loop-i.invariant w.loop-i-test.true
          w.tlm_entry-entry.ensures (sym w.agree.ensures ∙ w.in_default.is))
      | else-loop-segment-test w ↦ rw (w.at-is, w.stop-is) (stops_whole _ _ _ _ _ _ _ l w.loop-segment-test.false)
    ]))
