-- The components of a tile kept in its place (tile, proofs/RewriteInPlace.antt): the header for it gives the check and each component what they were in the
-- tile, both of its image and of its tile 0, also where they refuse.
use Prim.Native.Nat.{ℕ, zero, suc, ◌+◌, ◌≤◌}
use native.Mathlib.Omega.{arith}
use mathlib.Core.Path.{◌≡◌, refl, sym, ap, ap₂, ◌∙◌}
use mathlib.Core.Bool.{true}
use mathlib.Core.List.{List}
use lib.ListN.{length, get_or}
use borrow.Author.Tests.{le-leb}
use Rattle.std.specs.Prelude.{Some, Result, Ok, Err}
use Rattle.numbers.specs.Bytes.{be}
use Rattle.numbers.proofs.Choice.{by_bool}
use Rattle.numbers.proofs.Rows.{be_one}
use Rattle.types.specs.Markers.{SOC, SIZ}
use Rattle.types.specs.Siz.{csiz, component}
use Rattle.types.specs.declared.Area.{Area}
use Rattle.header.specs.Step.{segment_end}
use Rattle.header.specs.Parse.{stands}
use Rattle.tile.specs.Siz.{marker}
use Rattle.tile.specs.Rules.{image_area}
use Rattle.tile.specs.Rewrite.{tile_size, rewritten}
use Rattle.tile.specs.declared.rules.Rule.TheVariants.{AnnexB, InPlace}
use Rattle.tile.proofs.RulesLaws.{tile_within}
use Rattle.tile.proofs.RewriteHeader.{length_rewritten}
use Rattle.tile.proofs.RewriteInPlace.{AllBytes, Kept, cut_kept, kept_front, kept_behind, kept_image, kept_told}
use Rattle.reader.specs.Components.{siz_whole, count_held, apart, all_apart, ordered, components_read, at_tile, components_in_tile, component_at, is_there, component_in, chosen, component_of, component_in_tile}
use Rattle.reader.specs.declared.components.Components.{Components}
use Rattle.types.specs.declared.Refusal.{Refusal}

module _ (h : List ℕ) (tile : ℕ) (a : Area) (bytes : AllBytes h) (cut : tile_size InPlace h tile ≡ Ok (Some a)) where
  -- the header for the tile
  abbrev new : List ℕ
  new = rewritten InPlace h tile

  kept : Kept h tile a
  kept = cut_kept h tile a cut

  same_length : length new ≡ length h
  same_length = length_rewritten InPlace h tile

  front : (n at : ℕ) → at + n ≤ 8 → be n new at ≡ be n h at
  front = kept_front h tile a bytes kept

  behind : (n at : ℕ) → 40 ≤ at → be n new at ≡ be n h at
  behind = kept_behind h tile a bytes kept

  byte : (at : ℕ) → 40 ≤ at → get_or new at 0 ≡ get_or h at 0
  byte at l = sym (be_one new at) ∙ behind 1 at l ∙ be_one h at

  -- ---- the tests

  stands_same : (at m : ℕ) → at + 2 ≤ 8 → stands new at m ≡ stands h at m
  unfolding stands
  stands_same at m l = rw (same_length, front 2 at l)

  whole_same : siz_whole new ≡ siz_whole h
  unfolding siz_whole segment_end
  whole_same = rw (same_length, front 2 4 (omega arith))

  held_same : count_held new ≡ count_held h
  unfolding count_held
  held_same = rw (front 2 4 (omega arith), behind 2 40 (omega arith))

  apart_same : (at : ℕ) → 40 ≤ at → apart new at ≡ apart h at
  unfolding apart
  apart_same at l = rw (byte (at + 1) (omega arith), byte (at + 2) (omega arith))

  all_apart_same : (n : ℕ) → all_apart new n ≡ all_apart h n
  unfolding all_apart
  all_apart_same zero = refl
  all_apart_same (suc n) = rw (all_apart_same n, apart_same (component marker n) (omega arith))

  image_new : image_area new ≡ a
  image_new = kept_image h tile a bytes kept

  ordered_new : ordered a ≡ true
  unfolding ordered
  ordered_new = let i = tile_within AnnexB h tile a kept.told in rw (le-leb _ _ i.wide, le-leb _ _ i.high)

  ordered_old : ordered (image_area h) ≡ true
  unfolding ordered
  ordered_old =
      let i = tile_within AnnexB h tile a kept.told in
      rw (le-leb (image_area h).x0 (image_area h).x1 (omega (arith, i.left, i.wide, i.right)), le-leb (image_area h).y0 (image_area h).y1 (omega (arith, i.top, i.high, i.bottom)))

  -- ---- the check

  -- Of the new header's image it is the check in the tile.
  pub image_is_tile : components_read new ≡ components_in_tile AnnexB h tile
  unfolding components_read components_in_tile at_tile
  image_is_tile =
      let soc = stands_same 0 SOC (omega arith) in
      let siz = stands_same marker SIZ (omega arith) in
      let count : csiz new marker ≡ csiz h marker = behind 2 40 (omega arith) in
      let steps = all_apart_same (csiz h marker) in
      let told = kept.told in
      rw (soc, siz, whole_same, held_same, count, steps, image_new, ordered_new, told, ordered_old)
      (by_bool (stands h 0 SOC)
      (λ e. rw e
      (by_bool (stands h marker SIZ)
      (λ f. rw f
      (by_bool (siz_whole h)
      (λ w. rw w (by_bool (count_held h) (λ c. rw c (by_bool (all_apart h (csiz h marker)) (λ s. rw s) (λ s. rw s))) (λ c. rw c)))
      (λ w. rw w)))
      (λ f. rw f)))
      (λ e. rw e))

  in_tile_twice : (r : Result Components Refusal) → at_tile (at_tile r (Ok a)) (Ok a) ≡ at_tile r (Ok a)
  unfolding at_tile
  in_tile_twice (Ok c) = refl
  in_tile_twice (Err r) = refl

  -- So it is in its tile 0.
  pub tile_is_tile : components_in_tile AnnexB new 0 ≡ components_in_tile AnnexB h tile
  unfolding components_in_tile
  tile_is_tile =
      let there : components_in_tile AnnexB h tile ≡ at_tile (components_read h) (Ok a) = ap (at_tile (components_read h)) kept.told in
      ap₂ at_tile image_is_tile (kept_told h tile a bytes kept) ∙ ap (λ (r : Result Components Refusal). at_tile r (Ok a)) there ∙ in_tile_twice (components_read h) ∙ sym there

  -- ---- one component

  component_same : (b : Area) (k : ℕ) → component_in new b k ≡ component_in h b k
  unfolding component_in is_there component_at
  component_same b k =
      rw (behind 2 40 (omega arith), same_length, apart_same (component marker k) (omega arith), byte (component marker k) (omega arith), byte (component marker k + 1) (omega arith), byte (component marker k + 2) (omega arith))

  chosen_same : (r : Result Components Refusal) (k : ℕ) → chosen r new k ≡ chosen r h k
  unfolding chosen
  chosen_same (Ok c) k = component_same c.area k
  chosen_same (Err r) k = refl

  -- Each component of the new header's image, and of its tile 0, is what it was in the tile: its depth, sign and steps, and its extent.
  pub image_component : (k : ℕ) → component_of new k ≡ component_in_tile AnnexB h tile k
  unfolding component_of component_in_tile
  image_component k = ap (λ (r : Result Components Refusal). chosen r new k) image_is_tile ∙ chosen_same (components_in_tile AnnexB h tile) k

  pub tile_component : (k : ℕ) → component_in_tile AnnexB new 0 k ≡ component_in_tile AnnexB h tile k
  unfolding component_in_tile
  tile_component k = ap (λ (r : Result Components Refusal). chosen r new k) tile_is_tile ∙ chosen_same (components_in_tile AnnexB h tile) k
