-- The tests that led to each answer are the definition's.
use mathlib.Core.Path.{sym}
use Rattle.tile.proofs.RewriteLaws.{sized_narrow, sized_low, sized_full}
use Rattle.tile.proofs.rewrite.full_or_cut.Goals as goal
use Rattle.tile.proofs.rewrite.full_or_cut.Goals.{else-width-xtsiz-via-then-width-xtsiz+else-height-ytsiz, else-width-xtsiz-via-else-width-xtsiz}

pub returns-then-height-ytsiz : goal.returns-then-height-ytsiz
returns-then-height-ytsiz c = sym (sized_full _ _ _ _ c.if-width-xtsiz.true c.if-height-ytsiz.true)

pub returns : goal.returns
returns c =
    elim c.else-width-xtsiz.branch [
      | else-width-xtsiz-via-then-width-xtsiz+else-height-ytsiz w ↦ sym (sized_low _ _ _ _ w.if-width-xtsiz.true w.if-height-ytsiz.false)
      | else-width-xtsiz-via-else-width-xtsiz w ↦ sym (sized_narrow _ _ _ _ w.if-width-xtsiz.false)
    ]
