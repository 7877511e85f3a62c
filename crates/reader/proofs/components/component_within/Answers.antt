-- The tests that led to each answer are the definition's; under 42 bytes no component's bytes lie inside.
use native.Mathlib.Omega.{arith}
use mathlib.Core.Path.{sym, ap, ◌∙◌}
use Rattle.std.specs.Prelude.{Some, Ok}
use Rattle.reader.proofs.ComponentsLaws.{none_counted, none_inside, none_apart, some_in}
use Rattle.reader.proofs.components.component_within.Goals as goal
use Rattle.reader.proofs.components.component_within.Goals.{then-codestream-via-then-codestream, then-codestream-via-else-codestream+then-read_u16-number}
use Rattle.reader.proofs.components.component_within.Goals.{then-codestream-at-via-then-codestream-at, then-codestream-at-via-else-codestream-at+then-not-is_apart}

pub returns-then-codestream : goal.returns-then-codestream
returns-then-codestream c =
    elim c.then-codestream.branch [
      | then-codestream-via-then-codestream w ↦ sym (none_inside _ _ _ (omega (arith, w.if-codestream.true)))
      | then-codestream-via-else-codestream+then-read_u16-number w ↦ sym (none_counted _ _ _ (omega (arith, w.if-read_u16-number.true, w.read_u16.ensures)))
    ]

pub returns-then-codestream-at : goal.returns-then-codestream-at
returns-then-codestream-at c =
    elim c.then-codestream-at.branch [
      | then-codestream-at-via-then-codestream-at w ↦ sym (none_inside _ _ _ (omega (arith, w.if-codestream-at.true)))
      | then-codestream-at-via-else-codestream-at+then-not-is_apart w ↦ sym (none_apart _ _ _ (sym w.is_apart.ensures ∙ w.if-not-is_apart.true))
    ]

pub component_at-requires : goal.component_at-requires
component_at-requires c = record { at_in_bounds = omega (arith, c.if-codestream-at.false); at_value = sym c.is_apart.ensures ∙ c.if-not-is_apart.false }

pub returns : goal.returns
returns c =
    let apart = sym c.is_apart.ensures ∙ c.if-not-is_apart.false in
    ap (λ p. Ok (Some p)) c.component_at.ensures
    ∙ sym (some_in _ _ _ (omega (arith, c.if-read_u16-number.false, c.read_u16.ensures)) (omega (arith, c.if-codestream-at.false)) apart)
