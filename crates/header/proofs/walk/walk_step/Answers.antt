-- By what stands there.
use mathlib.Core.Path.{sym, ◌∙◌, ap}
use Rattle.std.specs.Prelude.{Err}
use Rattle.header.proofs.StepLaws.{cut_else}
use Rattle.header.proofs.WalkLaws.{walk_sot, walk_cut, walk_segment, walk_delimiter, segment_within}
use Rattle.header.proofs.walk.walk_step.Goals as goal

pub returns-in-Sot : goal.returns-in-Sot
returns-in-Sot c = sym (walk_sot _ _ (sym c.in-Sot.ensures))

pub returns-in_default-step : goal.returns-in_default-step
returns-in_default-step c =
    let cut = cut_else _ c.in_default.not-Segment c.in_default-step.not-Delimiter c.in_default-step-2.not-Sot in
    ap Err c.cut_at.ensures ∙ sym (walk_cut _ _ (sym c.header_step-step.ensures ∙ cut))

pub returns-in_default : goal.returns-in_default
returns-in_default c = sym (walk_delimiter _ _ _ (sym c.in-Delimiter.ensures))

pub pass_segment-requires : goal.pass_segment-requires
pass_segment-requires c = segment_within _ _ _ (sym c.in-Segment.ensures)

pub returns : goal.returns
returns c = c.pass_segment.ensures ∙ sym (walk_segment _ _ _ (sym c.in-Segment.ensures))
