-- The walk over the main header (docs/RULES.md, "Header walk"): the chain of its steps, with what each passes or refuses.
use Rattle.std.specs.Prelude.{ℕ, ◌+◌, Bool, false, cond, not, List, length, leb, eqb, Option, Some, None, Result, Ok, Err}
use Rattle.std.specs.Result.{result_unwrap_or}
use Rattle.types.specs.Refusals.{refusal}
use Rattle.types.specs.Markers.{TLM}
use Rattle.types.specs.declared.Refusal.{Refusal}
use Rattle.chain.specs.Chain.{Move, end, on, Chain, chain}
use Rattle.header.specs.Step.{step_at}
use Rattle.header.specs.Tlm.{tlm_at}
use Rattle.header.specs.declared.step.Marker.{Marker}
use Rattle.header.specs.declared.step.HeaderStep.{HeaderStep}
use Rattle.header.specs.declared.step.HeaderStep.TheVariants.{Sot, Delimiter, Segment, CutShort}
use Rattle.header.specs.declared.walk.Passed.{Passed as Passing}
use Rattle.types.specs.declared.Reason.TheVariants.{SegmentPastEnd, NoTilePart}

-- where a marker stands whole its segment passes the codestream: 3; otherwise no SOT was reached: 6
unfoldable pub cut_at : List ℕ → ℕ → Refusal
cut_at s at = cond (leb (at + 2) (length s)) (refusal SegmentPastEnd at) (refusal NoTilePart (length s))

-- what is passed and is no TLM segment, and whether it is filler
abbrev pub plain : Marker → Bool → Passing
plain m filler = record { next = m.next; code = m.code; is_filler = filler; tlm = None }

-- a TLM segment is passed unless it is refused
unfoldable pub tlm_step : Marker → Result ℕ Refusal → Result (Option Passing) Refusal
tlm_step m (Ok n) = Ok (Some (record { next = m.next; code = m.code; is_filler = false; tlm = Some n }))
tlm_step m (Err r) = Err r

-- a segment, told by the code that the step gave
unfoldable pub passed_at : List ℕ → ℕ → Marker → Result (Option Passing) Refusal
unfolding tlm_step
passed_at s at m = cond (eqb m.code TLM) (tlm_step m (tlm_at s at)) (Ok (Some (plain m false)))

-- one step of the walk, by what stands there
unfoldable pub walk_step_of : List ℕ → ℕ → HeaderStep → Result (Option Passing) Refusal
unfolding cut_at passed_at
walk_step_of s at Sot = Ok None
walk_step_of s at (Delimiter m) = Ok (Some (plain m (not m.high_ff)))
walk_step_of s at (Segment m) = passed_at s at m
walk_step_of s at CutShort = Err (cut_at s at)

unfoldable pub walk_step_at : List ℕ → ℕ → Result (Option Passing) Refusal
walk_step_at s at = walk_step_of s at (step_at s at)

-- what is passed there: nothing at the first SOT, and nothing where the walk is refused
unfoldable pub next_at : List ℕ → ℕ → Option Passing
next_at s at = result_unwrap_or (walk_step_at s at) None

-- how the walk ends: at the first SOT, or refused
pub data WalkEnd : Type 0 where
  at_first_sot : WalkEnd
  refused : Refusal → WalkEnd

unfoldable pub walk_move : Result (Option Passing) Refusal → Move WalkEnd
walk_move (Ok (Some p)) = on p.next
walk_move (Ok None) = end at_first_sot
walk_move (Err r) = end (refused r)

unfoldable pub walk_at : List ℕ → ℕ → Move WalkEnd
walk_at s at = walk_move (walk_step_at s at)

-- the walk from a position on
unfoldable pub walk_from : List ℕ → ℕ → Chain WalkEnd
walk_from s at = chain at_first_sot (walk_at s) (length s) at
