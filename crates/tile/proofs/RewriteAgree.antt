-- The two rules' rewrites: where tile origin and image origin are one, and neither refuses, they are the same.
use Prim.Native.Nat.{ℕ}
use mathlib.Core.Path.{◌≡◌, refl, sym, ap, ◌∙◌}
use mathlib.Core.List.{List}
use lib.ListN.{length}
use lib.Dec.{leb, eqb}
use borrow.Author.Tests.{leb-true, leb-false, eqb-true, eqb-false}
use Rattle.std.specs.Prelude.{Option, Result, Ok, Err}
use Rattle.numbers.specs.Bytes.{be}
use Rattle.numbers.proofs.Choice.{by_bool}
use Rattle.types.specs.Markers.{SIZ}
use Rattle.types.specs.declared.Refusal.{Refusal}
use Rattle.tile.specs.Siz.{marker}
use Rattle.tile.specs.Rules.{placed_by}
use Rattle.tile.specs.Rewrite.{cut_by, size_in, tile_size, cut_to, rewritten}
use Rattle.tile.specs.declared.rules.Rule.{Rule}
use Rattle.tile.specs.declared.rules.Rule.TheVariants.{AnnexB, Original}
use Rattle.tile.proofs.RulesAgree.{OneOrigin, rules_agree}
use Rattle.tile.proofs.RewriteLaws.{size_refused, size_inside, size_short, size_other, size_siz}
use Rattle.types.specs.declared.Area.{Area}

-- a size that is no refusal
abbrev pub Accepts : Result (Option Area) Refusal → Type 0
Accepts s = (r : Refusal) → s ≡ Err r → ⊥

module _ (h : List ℕ) (tile : ℕ) (one : OneOrigin h) where
  in_agree : (p q : Result Area Refusal) → placed_by AnnexB h tile ≡ p → placed_by Original h tile ≡ q → Accepts (size_in AnnexB h tile) → Accepts (size_in Original h tile)
      → size_in AnnexB h tile ≡ size_in Original h tile
  unfolding cut_by
  in_agree (Ok a) (Ok b) e f x y =
      let same : a ≡ b = rules_agree h tile a b one e f in
      size_inside AnnexB h tile a e ∙ sym (size_inside Original h tile a (f ∙ ap Ok (sym same)))
  in_agree (Err r) q e f x y = absurd (x r (size_refused AnnexB h tile r e))
  in_agree (Ok a) (Err r) e f x y = absurd (y r (size_refused Original h tile r f))

  pub sizes_agree : Accepts (tile_size AnnexB h tile) → Accepts (tile_size Original h tile) → tile_size AnnexB h tile ≡ tile_size Original h tile
  sizes_agree x y =
      by_bool (leb 40 (length h))
      (λ l. let long = leb-true _ _ l in
      by_bool (eqb (be 2 h marker) SIZ)
      (λ m. let siz = eqb-true _ _ m in
      let e : (rule : Rule) → tile_size rule h tile ≡ size_in rule h tile = λ rule. size_siz rule h tile long siz in
      e AnnexB
      ∙ in_agree (placed_by AnnexB h tile) (placed_by Original h tile) refl refl (λ r f. x r (e AnnexB ∙ f)) (λ r f. y r (e Original ∙ f))
      ∙ sym (e Original))
      (λ m. let other = eqb-false _ _ m in size_other AnnexB h tile long other ∙ sym (size_other Original h tile long other)))
      (λ l. let short = leb-false _ _ l in size_short AnnexB h tile short ∙ sym (size_short Original h tile short))

  -- So is the header that they write.
  pub rewrites_agree : Accepts (tile_size AnnexB h tile) → Accepts (tile_size Original h tile) → rewritten AnnexB h tile ≡ rewritten Original h tile
  unfolding rewritten
  rewrites_agree x y = ap (λ (s : Result (Option Area) Refusal). cut_to s h) (sizes_agree x y)
