-- Each arm is the definition's, at the rule that was matched.
use mathlib.Core.Path.{sym, ap, ◌∙◌}
use Rattle.std.specs.Prelude.{Option, ok_or}
use Rattle.types.specs.declared.Area.{Area}
use Rattle.types.specs.declared.Reason.TheVariants.{TileOutside}
use Rattle.types.specs.Refusals.{refusal}
use Rattle.tile.specs.Siz.{marker}
use Rattle.tile.specs.Rules.{by_annex_b}
use Rattle.tile.proofs.RulesLaws.{passed_on, told_annex, told_original}
use Rattle.tile.proofs.rules.place.Goals as goal

pub returns-in-Original : goal.returns-in-Original
returns-in-Original c =
    c.ok_or.ensures.value
    ∙ ap (λ (t : Option Area). ok_or t (refusal TileOutside marker)) c.tile_area.ensures
    ∙ sym (told_original _ _ _ c.in-Original.is)

pub returns-in_err-tile_area-in-AnnexB : goal.returns-in_err-tile_area-in-AnnexB
unfolding by_annex_b
returns-in_err-tile_area-in-AnnexB c =
    passed_on _ _ c.from_residual.ensures.1 ∙ ap by_annex_b c.in_err-tile_area-in-AnnexB.ensures ∙ sym (told_annex _ _ _ c.in-AnnexB.is)

pub returns-in_ok-tile_area-in-AnnexB : goal.returns-in_ok-tile_area-in-AnnexB
unfolding by_annex_b
returns-in_ok-tile_area-in-AnnexB c = ap by_annex_b c.in_ok-tile_area-in-AnnexB.ensures ∙ sym (told_annex _ _ _ c.in-AnnexB.is)
