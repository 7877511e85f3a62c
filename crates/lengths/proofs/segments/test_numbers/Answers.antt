-- How the numbers of the segments ahead end is how all of them do.
use native.Mathlib.Omega.{arith}
use mathlib.Core.Path.{sym, ap}
use Rattle.lengths.specs.Places.{found_as}
use Rattle.lengths.proofs.PlacesNumbered.{numbering_start, numbering_none, numbering_one, numbering_26, numbering_end, noted_accepted}
use Rattle.lengths.proofs.segments.test_numbers.Goals as goal
use Rattle.lengths.proofs.segments.test_numbers.Goals.{then-at-ne0+else-first-gt65535, else-at-ne0}

pub loop-at-init : goal.loop-at-init
loop-at-init c = numbering_start _ (λ i. omega (arith, c.type_inv.header i))

pub entry_count-count-requires : goal.entry_count-count-requires
entry_count-count-requires c = noted_accepted c.if-at-ne0.true (c.requires c.loop-at.at-index c.loop-at-test.true)

pub returns-then-first-gt65535 : goal.returns-then-first-gt65535
unfolding found_as
returns-then-first-gt65535 c =
    let below = c.loop-at-test.true in
    let noted = c.requires c.loop-at.at-index below in
    sym (ap (found_as _) (numbering_26 _ _ _ below c.loop-at.invariant noted c.if-at-ne0.true c.next_number-first.ensures c.if-first-gt65535.true))

pub loop-at-preserved : goal.loop-at-preserved
loop-at-preserved c =
    let below = c.loop-at-test.true in
    let noted = c.requires c.loop-at.at-index below in
    elim c.if-at-ne0.branch [
      | then-at-ne0+else-first-gt65535 w ↦
          rw w.first-is (numbering_one _ _ _ below c.loop-at.invariant noted w.if-at-ne0.true w.next_number-first.ensures w.if-first-gt65535.false)
      | else-at-ne0 w ↦ rw w.first-is (numbering_none _ _ _ below c.loop-at.invariant noted w.if-at-ne0.false)
    ]

pub returns : goal.returns
unfolding found_as
returns c = sym (ap (found_as _) (numbering_end _ _ _ c.loop-at-test.false c.loop-at.invariant))
