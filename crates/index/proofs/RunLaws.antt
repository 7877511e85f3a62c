-- The search by halving, one step at a time: what is left to halve finds what the whole search finds, and halves with each step, so 64 steps are enough.
use Prim.Native.Nat.{ℕ, zero, suc, ◌+◌, ◌-◌, ◌≤◌, ◌<◌, ◌^◌}
use native.Mathlib.Nat.{pow-suc}
use native.Mathlib.Omega.{arith}
use mathlib.Core.Path.{◌≡◌, refl, sym, ap, ap₂, ◌∙◌}
use mathlib.Core.List.{List}
use lib.ListN.{length, take, drop, get_or, length-drop}
use lib.Seq.{length-take-le}
use lib.Dec.{ltb}
use borrow.Author.Tests.{lt-ltb, le-ltb, ltb-true, ltb-false}
use mir.Val.{bool_byte}
use Rattle.numbers.proofs.Choice.{by_bool}
use Rattle.index.specs.Index.{tile_of}
use Rattle.index.specs.Run.{middle, halved, first_from, run_in, some_number}

-- ---- one step

module _ (keys : List ℕ) (tile lo hi : ℕ) where
  pub halved_end : (n : ℕ) → hi ≤ lo → halved n keys tile lo hi ≡ lo
  unfolding halved
  halved_end zero h = refl
  halved_end (suc n) h = rw (le-ltb lo hi h)

  pub halved_right : (n : ℕ) → lo < hi → tile_of (get_or keys (middle lo hi) 0) < tile → halved (suc n) keys tile lo hi ≡ halved n keys tile (middle lo hi + 1) hi
  unfolding halved
  halved_right n h below = rw (lt-ltb lo hi h, lt-ltb _ _ below)

  pub halved_left : (n : ℕ) → lo < hi → tile ≤ tile_of (get_or keys (middle lo hi) 0) → halved (suc n) keys tile lo hi ≡ halved n keys tile lo (middle lo hi)
  unfolding halved
  halved_left n h not-below = rw (lt-ltb lo hi h, le-ltb _ _ not-below)

-- ---- the search

-- what is left between two places finds what the search from a place on finds, in so many halvings
pub record Halving (keys : List ℕ) (tile from lo hi : ℕ) : Type 0 where
  pub left : ℕ
  pub after : from ≤ lo
  pub ascend : lo ≤ hi
  pub within : hi ≤ length keys
  pub few : hi - lo < 2 ^ left
  pub same : halved left keys tile lo hi ≡ first_from keys tile from

module _ {keys : List ℕ} {tile from : ℕ} where
  pub all_left : from ≤ length keys → length keys < 2 ^ 64 → Halving keys tile from from (length keys)
  unfolding first_from
  all_left h fits = record { left = 64; after = omega arith; ascend = h; within = omega arith; few = omega arith; same = refl }

  module _ {lo hi : ℕ} where
    right : (n : ℕ) → lo < hi → tile_of (get_or keys (middle lo hi) 0) < tile → from ≤ lo → hi ≤ length keys → hi - lo < 2 ^ n
        → halved n keys tile lo hi ≡ first_from keys tile from → Halving keys tile from (middle lo hi + 1) hi
    right zero h below after within few same = absurd (omega arith)
    right (suc n) h below after within few same =
        record {
          left = n;
          after = omega arith;
          ascend = omega arith;
          within = within;
          few = omega (arith, pow-suc 2 n);
          same = sym (halved_right keys tile lo hi n h below) ∙ same;
        }

    left : (n : ℕ) → lo < hi → tile ≤ tile_of (get_or keys (middle lo hi) 0) → from ≤ lo → hi ≤ length keys → hi - lo < 2 ^ n
        → halved n keys tile lo hi ≡ first_from keys tile from → Halving keys tile from lo (middle lo hi)
    left zero h not-below after within few same = absurd (omega arith)
    left (suc n) h not-below after within few same =
        record {
          left = n;
          after = after;
          ascend = omega arith;
          within = omega arith;
          few = omega (arith, pow-suc 2 n);
          same = sym (halved_left keys tile lo hi n h not-below) ∙ same;
        }

    -- the key in the middle is of an earlier tile
    pub turn_right : {t : ℕ} → lo < hi → t ≡ tile_of (get_or keys (middle lo hi) 0) → t < tile → Halving keys tile from lo hi
        → Halving keys tile from (middle lo hi + 1) hi
    turn_right h is below s = right s.left h (omega arith) s.after s.within s.few s.same

    -- or isn't
    pub turn_left : {t : ℕ} → lo < hi → t ≡ tile_of (get_or keys (middle lo hi) 0) → tile ≤ t → Halving keys tile from lo hi
        → Halving keys tile from lo (middle lo hi)
    turn_left h is not-below s = left s.left h (omega arith) s.after s.within s.few s.same

    pub found : hi ≤ lo → Halving keys tile from lo hi → lo ≡ first_from keys tile from
    found h s = sym (halved_end keys tile lo hi s.left h) ∙ s.same

-- ---- a tile's run

module _ (keys : List ℕ) (tile : ℕ) {from to : ℕ} (start : from ≡ first_from keys tile 0) (end : to ≡ first_from keys (tile + 1) (first_from keys tile 0)) where
  pub run_between : take (to - from) (drop from keys) ≡ run_in keys tile
  unfolding run_in
  run_between = ap₂ (λ (n m : ℕ). take (m - n) (drop n keys)) start end

  pub run_length : to ≤ length keys → to - from ≡ length (run_in keys tile)
  run_length fits = sym (length-take-le (to - from) (drop from keys) (omega (arith, length-drop from keys))) ∙ ap length run_between

  pub run_told : to ≤ length keys → bool_byte (ltb from to) ≡ some_number (run_in keys tile)
  run_told fits =
      by_bool (ltb from to)
      (λ some. rw (some, lt-ltb 0 (length (run_in keys tile)) (omega (arith, ltb-true from to some, run_length fits))))
      (λ none. rw (none, le-ltb 0 (length (run_in keys tile)) (omega (arith, ltb-false from to none, run_length fits))))
