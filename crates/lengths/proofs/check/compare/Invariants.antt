-- What is left of both lists is answered as the whole, entry by entry within a segment, and segment by segment.
use Rattle.lengths.proofs.CheckCompared.{Matching, Comparing}
use Rattle.lengths.proofs.check.compare.Given as goal

abbrev pub invariant-loop-segment : goal.invariant-loop-segment
invariant-loop-segment l = Comparing l.header l.codestream l.initial.at l.at l.number l.first l.segment-index

abbrev pub invariant-loop-i : goal.invariant-loop-i
invariant-loop-i l = Matching l.header l.codestream l.segment l.first l.count l.initial.at l.initial.number l.at l.number l.i
