-- The rewrite's definitions opened once: a law for each case.
use Prim.Native.Nat.{ℕ, ◌^◌, ◌-◌, ◌≤◌, ◌<◌}
use native.Mathlib.Nat.{min-eq_left}
use native.Mathlib.Omega.{arith}
use mathlib.Core.Path.{◌≡◌, refl, sym, ap}
use mathlib.Core.List.{List}
use lib.ListN.{length}
use borrow.Author.Tests.{le-leb, lt-leb, eq-eqb, ne_eqb}
use Rattle.std.specs.Prelude.{Option, Some, None, Result, Ok, Err}
use Rattle.numbers.specs.Bytes.{be}
use Rattle.types.specs.Refusals.{refusal}
use Rattle.types.specs.Markers.{SIZ}
use Rattle.types.specs.Siz.{xtsiz, ytsiz}
use Rattle.types.specs.declared.Refusal.{Refusal}
use Rattle.types.specs.declared.Area.{Area}
use Rattle.tile.specs.Siz.{marker}
use Rattle.tile.specs.Rules.{placed_by}
use Rattle.tile.specs.Rewrite.{from_zero, sized, moved, cut_by, size_of, size_in, tile_size, with_room, judged}
use Rattle.tile.specs.declared.rules.Rule.{Rule}
use Rattle.tile.specs.declared.rules.Rule.TheVariants.{AnnexB, Original, InPlace}
use Rattle.types.specs.declared.Reason.TheVariants.{OutputTooSmall}

-- ---- where a tile is put

module _ (width height xt yt : ℕ) where
  pub sized_narrow : (width ≡ xt → ⊥) → sized width height xt yt ≡ Ok (Some (from_zero width height))
  unfolding sized
  sized_narrow n = rw (ne_eqb _ _ n)

  pub sized_low : width ≡ xt → (height ≡ yt → ⊥) → sized width height xt yt ≡ Ok (Some (from_zero width height))
  unfolding sized
  sized_low e n = rw (eq-eqb _ _ e, ne_eqb _ _ n)

  pub sized_full : width ≡ xt → height ≡ yt → sized width height xt yt ≡ Ok None
  unfolding sized
  sized_full e f = rw (eq-eqb _ _ e, eq-eqb _ _ f)

-- the rules but the one that keeps a tile in its place move it
pub cut_moved : (rule : Rule) (a : Area) (xt yt : ℕ) → (rule ≡ InPlace → ⊥) → cut_by rule a xt yt ≡ moved a xt yt
unfolding cut_by
cut_moved AnnexB a xt yt k = refl
cut_moved Original a xt yt k = refl
cut_moved InPlace a xt yt k = absurd (k refl)

pub cut_kept_in_place : (rule : Rule) (a : Area) (xt yt : ℕ) → rule ≡ InPlace → cut_by rule a xt yt ≡ Ok (Some a)
unfolding cut_by
cut_kept_in_place rule a xt yt e = ap (λ (r : Rule). cut_by r a xt yt) e

module _ (rule : Rule) (h : List ℕ) (tile : ℕ) where
  pub size_refused : (r : Refusal) → placed_by rule h tile ≡ Err r → size_in rule h tile ≡ Err r
  unfolding size_in size_of
  size_refused r e = ap (λ (p : Result Area Refusal). size_of rule p (xtsiz h marker) (ytsiz h marker)) e

  pub size_inside : (a : Area) → placed_by rule h tile ≡ Ok a → size_in rule h tile ≡ cut_by rule a (xtsiz h marker) (ytsiz h marker)
  unfolding size_in size_of
  size_inside a e = ap (λ (p : Result Area Refusal). size_of rule p (xtsiz h marker) (ytsiz h marker)) e

  pub size_short : length h < 40 → tile_size rule h tile ≡ Ok None
  unfolding tile_size
  size_short l = rw (lt-leb _ _ l)

  module _ (long : 40 ≤ length h) where
    pub size_other : (be 2 h marker ≡ SIZ → ⊥) → tile_size rule h tile ≡ Ok None
    unfolding tile_size
    size_other n = rw (le-leb _ _ long, ne_eqb _ _ n)

    pub size_siz : be 2 h marker ≡ SIZ → tile_size rule h tile ≡ size_in rule h tile
    unfolding tile_size
    size_siz e = rw (le-leb _ _ long, eq-eqb _ _ e)

-- ---- the answer

module _ (needed room : ℕ) where
  pub room_enough : needed ≤ room → with_room needed room ≡ Ok needed
  unfolding with_room
  room_enough h = rw (le-leb _ _ h)

  pub room_short : room < needed → needed < 2 ^ 64 → with_room needed room ≡ Err (refusal OutputTooSmall needed)
  unfolding with_room
  room_short h fits = rw (lt-leb _ _ h, min-eq_left {n = needed} {m = 2 ^ 64 - 1} (omega arith))

  pub judged_refused : (s : Result (Option Area) Refusal) (r : Refusal) → s ≡ Err r → judged s needed room ≡ Err r
  unfolding judged
  judged_refused s r e = ap (λ (x : Result (Option Area) Refusal). judged x needed room) e

  -- where no step of the rewrite fails only room is asked
  pub judged_room : (o : Option Area) {s : Result (Option Area) Refusal} → Ok o ≡ s → judged s needed room ≡ with_room needed room
  unfolding judged
  judged_room None e = ap (λ (x : Result (Option Area) Refusal). judged x needed room) (sym e)
  judged_room (Some a) e = ap (λ (x : Result (Option Area) Refusal). judged x needed room) (sym e)
