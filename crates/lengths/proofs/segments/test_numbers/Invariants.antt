-- How the numbers of the segments ahead end is how all of them do.
use Rattle.lengths.proofs.PlacesNumbered.{Numbering}
use Rattle.lengths.proofs.segments.test_numbers.Given as goal

abbrev pub invariant-loop-at : goal.invariant-loop-at
invariant-loop-at l = Numbering l.header l.first l.at-index
