-- The tests that led to each answer are the definition's.
use mathlib.Core.Path.{sym, ◌∙◌}
use Rattle.tile.proofs.RewriteLaws.{size_short, size_other, size_siz}
use Rattle.tile.proofs.rewrite.tile_size.Goals as goal
use Rattle.tile.proofs.rewrite.tile_size.Goals.{then-header-lt40-via-then-header-lt40, then-header-lt40-via-else-header-lt40+then-read_u16-ne-SIZ}

pub returns-then-header-lt40 : goal.returns-then-header-lt40
returns-then-header-lt40 c =
    elim c.then-header-lt40.branch [
      | then-header-lt40-via-then-header-lt40 w ↦ sym (size_short _ _ _ w.if-header-lt40.true)
      | then-header-lt40-via-else-header-lt40+then-read_u16-ne-SIZ w ↦
          sym (size_other _ _ _ w.if-header-lt40.false (λ e. w.if-read_u16-ne-SIZ.true (w.read_u16.ensures ∙ e)))
    ]

pub returns : goal.returns
returns c = c.size_in.ensures ∙ sym (size_siz _ _ _ c.if-header-lt40.false (sym c.read_u16.ensures ∙ c.if-read_u16-ne-SIZ.false))
