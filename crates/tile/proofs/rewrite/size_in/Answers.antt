-- The tile's area is the rule's, and within the image, so that neither difference falls below 0.
use mathlib.Core.Path.{◌≡◌, sym, ◌∙◌}
use mathlib.Core.Bool.{true, false}
use denote.Enum.Bare.{sameb, same_true}
use borrow.Author.Rules.{rules}
use Rattle.tile.specs.Rewrite.{moved}
use Rattle.tile.specs.declared.rules.Rule.{Rule}
use Rattle.tile.specs.declared.rules.Rule.TheVariants.{AnnexB, Original, InPlace}
use Rattle.tile.specs.contracts.rules.Rule.{the_type}
use Rattle.tile.proofs.RulesLaws.{passed_on, tile_within}
use Rattle.tile.proofs.RewriteLaws.{cut_moved, cut_kept_in_place, size_refused, size_inside}
use Rattle.tile.proofs.rewrite.size_in.Goals as goal

-- the test by `==`
in_place : (rule : Rule) → sameb the_type rule InPlace ≡ true → rule ≡ InPlace
in_place rule e = same_true the_type (search rules) _ _ e

elsewhere : (rule : Rule) → sameb the_type rule InPlace ≡ false → rule ≡ InPlace → ⊥
elsewhere AnnexB e f = cc
elsewhere Original e f = cc
elsewhere InPlace e f = cc

pub returns-in_err-tile : goal.returns-in_err-tile
returns-in_err-tile c = passed_on _ _ c.from_residual.ensures.1 ∙ sym (size_refused _ _ _ _ (sym c.in_err-tile.ensures))

pub returns-then-eq : goal.returns-then-eq
returns-then-eq c =
    sym (size_inside _ _ _ _ (sym c.in_ok-tile.ensures) ∙ cut_kept_in_place _ _ _ _ (in_place _ (sym c.eq.ensures ∙ c.if-eq.true)))

pub overflow_sub-tile : goal.overflow_sub-tile
overflow_sub-tile c = (tile_within _ _ _ _ (sym c.in_ok-tile.ensures)).wide

pub overflow_sub-tile-2 : goal.overflow_sub-tile-2
overflow_sub-tile-2 c = (tile_within _ _ _ _ (sym c.in_ok-tile.ensures)).high

pub returns : goal.returns
unfolding moved
returns c =
    c.full_or_cut.ensures
    ∙ (λ i. moved c.in_ok-tile.tile (c.field-xtsiz.ensures i) (c.field-ytsiz.ensures i))
    ∙ sym
    (size_inside _ _ _ _ (sym c.in_ok-tile.ensures)
    ∙ cut_moved _ _ _ _ (elsewhere _ (sym c.eq.ensures ∙ c.if-eq.false)))
