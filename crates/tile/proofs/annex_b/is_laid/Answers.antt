-- The tests that led to each answer are the definition's; the last has that of the size in it.
use native.Mathlib.Omega.{arith}
use mathlib.Core.Path.{sym, ◌∙◌}
use borrow.Author.Tests.{lt-leb, le-ltb}
use Rattle.tile.proofs.AnnexBLaws.{laid_late, laid_empty, laid_reach}
use Rattle.tile.proofs.annex_b.is_laid.Goals as goal
use Rattle.tile.proofs.annex_b.is_laid.Goals.{then-side, else-side}

pub returns-then-side-2 : goal.returns-then-side-2
returns-then-side-2 c = sym (laid_reach _ c.if-side-2.true.0 c.if-side-2.true.1)

pub returns-else-side-2 : goal.returns-else-side-2
returns-else-side-2 c =
    elim c.if-side.branch [
      | then-side w ↦ w.t-3-is ∙ le-ltb _ _ (omega arith) ∙ sym (laid_empty c.args.side (omega arith))
      | else-side w ↦ w.t-3-is ∙ lt-leb _ _ w.if-side.false ∙ sym (laid_late c.args.side w.if-side.false)
    ]
