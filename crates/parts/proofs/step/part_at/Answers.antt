-- The test on Psot chooses the record's length.
use mathlib.Core.Path.{sym, ap, ◌∙◌}
use borrow.Author.Tests.{eq-eqb, ne_eqb}
use Rattle.parts.specs.Scan.{entry_of}
use Rattle.parts.proofs.step.part_at.Goals as goal

pub returns-then-psot-eq0 : goal.returns-then-psot-eq0
returns-then-psot-eq0 c =
    c.entry_at.ensures ∙ ap (entry_of _ _) (rw (eq-eqb _ _ (sym c.read_u32-psot.ensures ∙ c.if-psot-eq0.true)))

pub returns : goal.returns
returns c =
    c.entry_at-2.ensures ∙ ap (entry_of _ _) (c.read_u32-psot.ensures ∙ rw (ne_eqb _ _ (λ e. c.if-psot-eq0.false (c.read_u32-psot.ensures ∙ e))))
