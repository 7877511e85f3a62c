-- The tests in the definition's order.
use native.Mathlib.Omega.{arith}
use mathlib.Core.Path.{sym, ◌∙◌}
use Rattle.header.proofs.ParseLaws.{front_long, front_no_soc, front_no_siz, front_sound}
use Rattle.header.proofs.parse.test_front.Goals as goal

pub returns-then-codestream-gt4294967295 : goal.returns-then-codestream-gt4294967295
returns-then-codestream-gt4294967295 c = sym (front_long _ c.if-codestream-gt4294967295.true)

pub returns-then-not-marker_stands : goal.returns-then-not-marker_stands
returns-then-not-marker_stands c = sym (front_no_soc _ (omega arith) (sym c.marker_stands.ensures ∙ c.if-not-marker_stands.true))

pub returns-then-not-marker_stands-2 : goal.returns-then-not-marker_stands-2
returns-then-not-marker_stands-2 c =
    let soc = sym c.marker_stands.ensures ∙ c.if-not-marker_stands.false in
    sym (front_no_siz _ (omega arith) soc (sym c.marker_stands-2.ensures ∙ c.if-not-marker_stands-2.true))

pub returns : goal.returns
returns c =
    let soc = sym c.marker_stands.ensures ∙ c.if-not-marker_stands.false in
    sym (front_sound _ (omega arith) soc (sym c.marker_stands-2.ensures ∙ c.if-not-marker_stands-2.false))
