-- The walk over the main header goes forward inside the bytes, so the laws of a chain hold of it.
use Prim.Native.Nat.{ℕ, ◌≤◌, ◌<◌}
use native.Mathlib.Omega.{arith}
use mathlib.Core.Path.{◌≡◌, ap}
use mathlib.Core.List.{List}
use lib.ListN.{length}
use borrow.Author.Tests.{le-leb, lt-leb, eq-eqb, ne_eqb}
use Rattle.std.specs.Prelude.{Some, None}
use Rattle.numbers.specs.Bytes.{be}
use Rattle.types.specs.Markers.{SOC}
use Rattle.chain.specs.Chain.{end, on, Rises, also}
use Rattle.chain.proofs.ChainLaws.{end_on, chain_end, chain_on}
use Rattle.header.specs.Step.{step_at, HeaderEnd, sot, cut, move_of, move_at, steps_from}
use Rattle.header.specs.Extent.{ended_as, extent_end, extent_of}
use Rattle.header.specs.declared.step.Marker.{Marker}
use Rattle.header.specs.declared.step.HeaderStep.{HeaderStep}
use Rattle.header.specs.declared.step.HeaderStep.TheVariants.{Sot, Delimiter, Segment, CutShort}
use Rattle.header.proofs.StepLaws.{Told, step_told}

moved : (s : List ℕ) (at next : ℕ) (found : HeaderStep) → Told s at found → move_of found ≡ on next → (at < next) × (next ≤ length s)
unfolding move_of
moved s at next Sot told e = absurd (end_on e)
moved s at next (Delimiter m) told e = let h : m.next ≡ next = cc in (omega arith, omega arith)
moved s at next (Segment m) told e = let h : m.next ≡ next = cc in (omega arith, omega arith)
moved s at next CutShort told e = absurd (end_on e)

-- a step that moves on goes forward, and not past the end
pub move_inside : (s : List ℕ) (at next : ℕ) → move_at s at ≡ on next → (at < next) × (next ≤ length s)
unfolding move_at
move_inside s at next e = moved s at next (step_at s at) (step_told s at) e

pub rises : (s : List ℕ) → Rises (move_at s) (length s)
rises s at next e = let h = move_inside s at next e in (omega arith, omega arith)

-- ---- the walk, by what the step finds

pub steps_end : (s : List ℕ) (at : ℕ) (a : HeaderEnd) → move_at s at ≡ end a → steps_from s at ≡ record { visits = mathlib.Core.List.[]; stopped = at; ended = a }
unfolding steps_from
steps_end s at a e = chain_end cut (move_at s) (length s) (rises s) at a e

pub steps_on : (s : List ℕ) (at next : ℕ) → move_at s at ≡ on next → steps_from s at ≡ also (record { at = at; next = next }) (steps_from s next)
unfolding steps_from
steps_on s at next e = chain_on cut (move_at s) (length s) (rises s) at next e

-- ---- the extent, by what the step finds

pub segment_on : (s : List ℕ) (at : ℕ) (m : Marker) → step_at s at ≡ Segment m → move_at s at ≡ on m.next
unfolding move_at move_of
segment_on s at m e = ap move_of e

pub delimiter_on : (s : List ℕ) (at : ℕ) (m : Marker) → step_at s at ≡ Delimiter m → move_at s at ≡ on m.next
unfolding move_at move_of
delimiter_on s at m e = ap move_of e

pub extent_on : (s : List ℕ) (at next : ℕ) → move_at s at ≡ on next → extent_end (steps_from s at) ≡ extent_end (steps_from s next)
unfolding extent_end also
extent_on s at next e = ap extent_end (steps_on s at next e)

pub extent_sot : (s : List ℕ) (at : ℕ) → step_at s at ≡ Sot → extent_end (steps_from s at) ≡ Some (record { 0 = at })
unfolding extent_end ended_as move_at move_of
extent_sot s at e = ap extent_end (steps_end s at sot (ap move_of e))

pub extent_cut : (s : List ℕ) (at : ℕ) → step_at s at ≡ CutShort → extent_end (steps_from s at) ≡ None
unfolding extent_end ended_as move_at move_of
extent_cut s at e = ap extent_end (steps_end s at cut (ap move_of e))

-- ---- the extent's own tests

pub extent_few : (s : List ℕ) → length s < 4 → extent_of s ≡ None
unfolding extent_of
extent_few s h = rw (lt-leb _ _ h)

pub extent_no_soc : (s : List ℕ) → 4 ≤ length s → (be 2 s 0 ≡ SOC → ⊥) → extent_of s ≡ None
unfolding extent_of
extent_no_soc s h e = rw (le-leb _ _ h, ne_eqb _ _ e)

pub extent_steps : (s : List ℕ) → 4 ≤ length s → be 2 s 0 ≡ SOC → extent_of s ≡ extent_end (steps_from s 2)
unfolding extent_of
extent_steps s h e = rw (le-leb _ _ h, eq-eqb _ _ e)
