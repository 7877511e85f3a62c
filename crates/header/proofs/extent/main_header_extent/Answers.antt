-- The walk from the present position ends as the walk from 2 does; each turn is one step of the chain, and what is left of the prefix falls.
use Prim.Native.Nat.{ℕ, ◌≤◌}
use native.Mathlib.Omega.{arith}
use mathlib.Core.List.{List}
use mathlib.Core.Path.{◌≡◌, sym, ◌∙◌}
use lib.ListN.{length}
use borrow.Author.Rules.{rules}
use Rattle.std.specs.Prelude.{Some}
use Rattle.header.proofs.StepLaws.{cut_else}
use Rattle.header.proofs.ExtentLaws.{extent_few, extent_no_soc, extent_steps, move_inside, segment_on, delimiter_on, extent_on, extent_sot, extent_cut}
use Rattle.header.specs.Step.{move_at, steps_from}
use Rattle.chain.specs.Chain.{on}
use Rattle.header.specs.Extent.{extent_of, extent_end}
use Rattle.header.proofs.extent.main_header_extent.Goals as goal

-- a turn: one step of the chain, from which the walk ends as before, with less of the prefix left
turn : (s : List ℕ) (at next : ℕ) → extent_end (steps_from s at) ≡ extent_of s → move_at s at ≡ on next
    → (next ≤ length s) × (extent_end (steps_from s next) ≡ extent_of s)
turn s at next e m = ((move_inside s at next m).1, sym (extent_on s at next m) ∙ e)

pub returns-then-prefix-lt4 : goal.returns-then-prefix-lt4
returns-then-prefix-lt4 c = sym (extent_few _ c.if-prefix-lt4.true)

pub returns-then-read_u16-ne-SOC : goal.returns-then-read_u16-ne-SOC
returns-then-read_u16-ne-SOC c = sym (extent_no_soc _ (search rules) (λ e. c.if-read_u16-ne-SOC.true (c.read_u16.ensures ∙ e)))

pub loop-marker-init : goal.loop-marker-init
loop-marker-init c = (search rules, sym (extent_steps _ (search rules) (sym c.read_u16.ensures ∙ c.if-read_u16-ne-SOC.false)))

pub returns-in-Sot : goal.returns-in-Sot
returns-in-Sot c =
    (λ i. Some (record { 0 = c.at.ensures i }))
    ∙ sym (extent_sot _ c.loop-marker.at (sym c.in-Sot.ensures))
    ∙ c.loop-marker.invariant.1

pub returns-in_default : goal.returns-in_default
returns-in_default c =
    let cut = sym c.header_step-step.ensures ∙ cut_else _ c.in_default.not-Segment c.in_default.not-Delimiter c.in_default-step.not-Sot in
    sym (extent_cut _ c.loop-marker.at cut) ∙ c.loop-marker.invariant.1

-- a segment
pub loop-marker-smaller-in-Segment : goal.loop-marker-smaller-in-Segment
loop-marker-smaller-in-Segment c =
    let m = move_inside c.args.prefix.now _ _ (segment_on _ _ _ (sym c.in-Segment.ensures)) in
    omega arith

pub loop-marker-preserved-in-Segment : goal.loop-marker-preserved-in-Segment
loop-marker-preserved-in-Segment c = turn c.args.prefix.now _ _ c.loop-marker.invariant.1 (segment_on _ _ _ (sym c.in-Segment.ensures))

-- a delimiter
pub loop-marker-smaller : goal.loop-marker-smaller
loop-marker-smaller c =
    let m = move_inside c.args.prefix.now _ _ (delimiter_on _ _ _ (sym c.in-Segment.ensures)) in
    omega arith

pub loop-marker-preserved : goal.loop-marker-preserved
loop-marker-preserved c = turn c.args.prefix.now _ _ c.loop-marker.invariant.1 (delimiter_on _ _ _ (sym c.in-Segment.ensures))
