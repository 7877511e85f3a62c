-- At each return the tests that led there choose the case of the definition.
use native.Mathlib.Omega.{arith}
use mathlib.Core.Path.{◌≡◌, sym, ap, ◌∙◌}
use Rattle.header.proofs.StepLaws.{step_short, step_sot, step_delimiter, step_no_length, step_no_end, step_segment}
use Rattle.header.specs.Step.{segment_end}
use Rattle.types.specs.Markers.{SOT}
use Rattle.numbers.specs.Bytes.{be}
use Rattle.header.specs.declared.step.HeaderStep.TheVariants.{Delimiter, Segment}
use Rattle.header.proofs.step.header_step.Goals as goal

pub returns-then-header-at-lt2 : goal.returns-then-header-at-lt2
returns-then-header-at-lt2 c = sym (step_short _ _ (omega arith))

pub returns-then-marker : goal.returns-then-marker
returns-then-marker c = sym (step_sot _ _ (omega arith) (sym c.read_u16-marker.ensures ∙ c.if-marker.true))

-- past the test for SOT another marker stands there
pub returns-then-is_delimiter : goal.returns-then-is_delimiter
returns-then-is_delimiter c =
    let other : be 2 c.args.header.now c.args.at ≡ SOT → ⊥ = λ e. c.if-marker.false (c.read_u16-marker.ensures ∙ e) in
    let delimiter = rw c.read_u16-marker.ensures at (sym c.is_delimiter.ensures ∙ c.if-is_delimiter.true) in
    ap Delimiter c.new.ensures ∙ rw c.read_u16-marker.ensures (sym (step_delimiter _ _ (omega arith) other delimiter))

-- past the test for a delimiter the marker is none
pub returns-then-header-at-lt4 : goal.returns-then-header-at-lt4
returns-then-header-at-lt4 c =
    let other : be 2 c.args.header.now c.args.at ≡ SOT → ⊥ = λ e. c.if-marker.false (c.read_u16-marker.ensures ∙ e) in
    let no_delimiter = rw c.read_u16-marker.ensures at (sym c.is_delimiter.ensures ∙ c.if-is_delimiter.false) in
    sym (step_no_length _ _ (omega arith) other no_delimiter (omega arith))

pub returns-then-header-at : goal.returns-then-header-at
unfolding segment_end
returns-then-header-at c =
    let other : be 2 c.args.header.now c.args.at ≡ SOT → ⊥ = λ e. c.if-marker.false (c.read_u16-marker.ensures ∙ e) in
    let no_delimiter = rw c.read_u16-marker.ensures at (sym c.is_delimiter.ensures ∙ c.if-is_delimiter.false) in
    sym (step_no_end _ _ (omega arith) other no_delimiter (omega arith) (omega arith))

pub returns : goal.returns
unfolding segment_end
returns c =
    let other : be 2 c.args.header.now c.args.at ≡ SOT → ⊥ = λ e. c.if-marker.false (c.read_u16-marker.ensures ∙ e) in
    let no_delimiter = rw c.read_u16-marker.ensures at (sym c.is_delimiter.ensures ∙ c.if-is_delimiter.false) in
    ap Segment c.new-2.ensures
    ∙ rw (c.read_u16-marker.ensures, c.read_u16.ensures) (sym (step_segment _ _ (omega arith) other no_delimiter (omega arith) (omega arith)))
