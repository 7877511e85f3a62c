-- The step, the walk and the reading as they were said before a step told what it passed: the old text of each definition whose text has changed since,
-- with those that go by one of these, and what is to be forgotten of an answer to have the old one. `proofs/Base.antt` says that nothing else has changed.
-- No contract cites this.
use Rattle.std.specs.Prelude.{is_some, unwrap_or, ℕ, ◌+◌, Bool, true, false, cond, List, length, leb, eqb, Option, Some, None, Result, Ok, Err, ⊤}
use Rattle.numbers.specs.Bytes.{be}
use Rattle.types.specs.Refusals.{refusal}
use Rattle.types.specs.Markers.{TLM, SOT}
use Rattle.types.specs.declared.Refusal.{Refusal}
use Rattle.chain.specs.Chain.{Move, end, on, Chain, chain}
use Rattle.header.specs.Step.{delimits, segment_end, HeaderEnd, sot, cut}
use Rattle.header.specs.Tlm.{tlm_at}
use Rattle.header.specs.Walk.{cut_at, WalkEnd, at_first_sot, refused}
use Rattle.header.specs.Strip.{decode_header, tlm_entries}
use Rattle.header.specs.declared.step.HeaderStep.{HeaderStep}
use Rattle.header.specs.declared.step.HeaderStep.TheVariants as now
use Rattle.header.specs.declared.walk.Passed.{Passed as Passing}
use Rattle.header.specs.declared.parse.MainHeaderInfo.{MainHeaderInfo}
use Rattle.types.specs.declared.Reason.TheVariants.{OutputTooSmall, TableTooSmall}

-- ---- the step

pub data Step : Type 0 where
  Sot : Step
  Delimiter : ℕ → Step
  Segment : ℕ → Step
  CutShort : Step

unfoldable pub step_at : List ℕ → ℕ → Step
step_at s at =
    cond (leb (at + 2) (length s))
    (cond (eqb (be 2 s at) SOT) Sot
    (cond (delimits (be 2 s at)) (Delimiter (at + 2))
    (cond (leb (at + 4) (length s))
    (cond (leb (segment_end s at) (length s)) (Segment (segment_end s at)) CutShort)
    CutShort)))
    CutShort

unfoldable pub move_of : Step → Move HeaderEnd
move_of Sot = end sot
move_of (Delimiter next) = on next
move_of (Segment next) = on next
move_of CutShort = end cut

unfoldable pub steps_from : List ℕ → ℕ → Chain HeaderEnd
steps_from s at = chain cut (λ at. move_of (step_at s at)) (length s) at

-- without the marker
unfoldable pub without_marker : HeaderStep → Step
without_marker now.Sot = Sot
without_marker (now.Delimiter m) = Delimiter m.next
without_marker (now.Segment m) = Segment m.next
without_marker now.CutShort = CutShort

-- ---- the walk

-- what was passed: where it ends, whether it is TLM, its entries
pub data Walked : Type 0 where
  Passed : ℕ → Bool → ℕ → Walked
  FirstSot : Walked
  Refused : Refusal → Walked

unfoldable pub tlm_step : ℕ → Result ℕ Refusal → Walked
tlm_step next (Ok n) = Passed next true n
tlm_step next (Err r) = Refused r

unfoldable pub passed_at : List ℕ → ℕ → ℕ → Walked
unfolding tlm_step
passed_at s at next = cond (eqb (be 2 s at) TLM) (tlm_step next (tlm_at s at)) (Passed next false 0)

unfoldable pub walk_step_of : List ℕ → ℕ → Step → Walked
unfolding passed_at
walk_step_of s at Sot = FirstSot
walk_step_of s at (Delimiter next) = passed_at s at next
walk_step_of s at (Segment next) = passed_at s at next
walk_step_of s at CutShort = Refused (cut_at s at)

unfoldable pub walk_move : Walked → Move WalkEnd
walk_move (Passed next tlm entries) = on next
walk_move FirstSot = end at_first_sot
walk_move (Refused r) = end (refused r)

unfoldable pub walk_from : List ℕ → ℕ → Chain WalkEnd
walk_from s at = chain at_first_sot (λ at. walk_move (walk_step_of s at (step_at s at))) (length s) at

-- without code and filler
unfoldable pub without_code : Result (Option Passing) Refusal → Walked
without_code (Ok (Some p)) = Passed p.next (is_some p.tlm) (unwrap_or p.tlm 0)
without_code (Ok None) = FirstSot
without_code (Err r) = Refused r

-- ---- the reading

-- first SOT, length of the decode header, TLM entries
pub data Answer : Type 0 where
  Header : ℕ → ℕ → ℕ → Answer
  Refused : Refusal → Answer

unfoldable pub read_as : List ℕ → Chain WalkEnd → WalkEnd → Answer
read_as s walk at_first_sot = Header walk.stopped (length (decode_header s walk.visits)) (length (tlm_entries s walk.visits))
read_as s walk (refused r) = Answer.Refused r

unfoldable pub behind_front : List ℕ → Result ⊤ Refusal → Answer
unfolding read_as
behind_front s (Ok tt) = read_as s (walk_from s 2) (walk_from s 2).ended
behind_front s (Err r) = Answer.Refused r

unfoldable pub with_room : ℕ → ℕ → Answer → Answer
with_room rows room (Header first long entries) =
    cond (leb entries rows) (cond (leb long room) (Header first long entries) (Answer.Refused (refusal OutputTooSmall long))) (Answer.Refused (refusal TableTooSmall entries))
with_room rows room (Answer.Refused r) = Answer.Refused r

-- without the fillers
unfoldable pub without_fillers : Result MainHeaderInfo Refusal → Answer
without_fillers (Ok h) = Header h.first_sot_offset.0 h.decode_header_length h.tlm_entries
without_fillers (Err r) = Answer.Refused r
