-- A part's Isot, the parts joined, and the whole: lengths, what stays as it was, and the size needed where a u64 does not hold it.
use Prim.Native.Nat.{ℕ, ◌+◌, ◌-◌, ◌^◌, ◌≤◌, ◌<◌, min}
use native.Mathlib.Nat.{min-eq_left, min-eq_right}
use native.Mathlib.Omega.{arith}
use mathlib.Core.Path.{◌≡◌, refl, ap, ◌∙◌}
use mathlib.Core.Bool.{Bool, true, false, cond, ◌&&◌}
use mathlib.Core.List.{List, [], ◌∷◌, ◌++◌}
use lib.ListN.{length, take, drop, length-append}
use lib.Dec.{leb, eqb}
use borrow.Author.Tests.{leb-true, leb-false, lt-leb}
use Rattle.std.specs.Prelude.{Option, Some, None, Result, Ok, Err}
use Rattle.numbers.specs.Bytes.{be, bytes_of, put}
use Rattle.numbers.proofs.BytesLaws.{length_bytes, length_put, be_put, be_bytes_of, take_put, drop_put}
use Rattle.types.specs.Markers.{SOT, EOC}
use Rattle.tile.specs.Rewrite.{tile_size, cut_to, Room, rewritten, with_room, judged}
use Rattle.types.specs.Row.{entry_at}
use Rattle.tile.specs.Assembly.{part_of, is_sot, patched, part_size, size_for, joined, assembled}
use Rattle.tile.specs.declared.rules.Rule.{Rule}
use Rattle.numbers.proofs.Choice.{by_test}
use Rattle.tile.proofs.AssemblyRanges.{Cut, parts_left, parts_kept}
use Rattle.tile.proofs.RewriteHeader.{size_room, length_cut}
use Rattle.types.specs.declared.Area.{Area}
use Rattle.types.specs.declared.Refusal.{Refusal}

-- ---- a part

and_left : (a b : Bool) → a && b ≡ true → a ≡ true
and_left true b e = refl
and_left false b e = e

pub sot_long : (part : List ℕ) → is_sot part ≡ true → 6 ≤ length part
unfolding is_sot
sot_long part e = leb-true 6 (length part) (and_left (leb 6 (length part)) (eqb (be 2 part 0) SOT) e)

module _ (part : List ℕ) where
  pub patched_sot : is_sot part ≡ true → patched part ≡ put part 4 (bytes_of 2 0)
  unfolding patched
  patched_sot e = ap (λ (b : Bool). cond b (put part 4 (bytes_of 2 0)) part) e

  pub patched_other : is_sot part ≡ false → patched part ≡ part
  unfolding patched
  patched_other e = ap (λ (b : Bool). cond b (put part 4 (bytes_of 2 0)) part) e

  module _ (rule : Rule) (h : List ℕ) where
    pub part_sot : is_sot part ≡ true → part_size rule h part ≡ tile_size rule h (be 2 part 4)
    unfolding part_size
    part_sot e = ap (λ (b : Bool). cond b (tile_size rule h (be 2 part 4)) (Ok None)) e

    pub part_other : is_sot part ≡ false → part_size rule h part ≡ Ok None
    unfolding part_size
    part_other e = ap (λ (b : Bool). cond b (tile_size rule h (be 2 part 4)) (Ok None)) e

  of_patched : (P : List ℕ → Type 0) → P part → (6 ≤ length part → P (put part 4 (bytes_of 2 0))) → P (patched part)
  unfolding patched
  of_patched P same sot = by_test P (is_sot part) (λ e. sot (sot_long part e)) (λ _. same)

  pub length_patched : length (patched part) ≡ length part
  length_patched = of_patched (λ p. length p ≡ length part) refl (λ h. length_put part 4 (bytes_of 2 0) (omega (arith, length_bytes 2 0)))

  -- only Isot changes
  pub patched_front : take 4 (patched part) ≡ take 4 part
  patched_front = of_patched (λ p. take 4 p ≡ take 4 part) refl (λ h. take_put part 4 (bytes_of 2 0) (omega arith))

  pub patched_rest : drop 6 (patched part) ≡ drop 6 part
  patched_rest = of_patched (λ p. drop 6 p ≡ drop 6 part) refl (λ h. drop_put part 4 (bytes_of 2 0) 2 (length_bytes 2 0) (omega arith))

  pub patched_isot : is_sot part ≡ true → be 2 (patched part) 4 ≡ 0
  patched_isot e =
      ap (λ (p : List ℕ). be 2 p 4) (patched_sot e)
      ∙ be_put 2 part 4 (bytes_of 2 0) 0 (omega (arith, sot_long part e)) (omega (arith, length_bytes 2 0))
      ∙ be_bytes_of 2 0 (omega arith)

-- ---- the parts, joined

pub joined_next : {parts rest : List (List ℕ)} {part : List ℕ} → parts ≡ part ∷ rest → joined parts ≡ patched part ++ joined rest
unfolding joined
joined_next e = ap joined e

pub joined_none : {parts : List (List ℕ)} → parts ≡ [] → joined parts ≡ []
unfolding joined
joined_none e = ap joined e

pub length_joined : {parts rest : List (List ℕ)} {part : List ℕ} → parts ≡ part ∷ rest → length (joined parts) ≡ length part + length (joined rest)
length_joined {rest = rest} {part = part} e = ap length (joined_next e) ∙ length-append (patched part) (joined rest) ∙ ap (λ (n : ℕ). n + length (joined rest)) (length_patched part)

-- a part that is kept adds its bytes
pub length_kept : (s : List ℕ) {rows row rest part : List ℕ} → Cut rows row rest → Some part ≡ part_of s (entry_at row 0)
    → length (joined (parts_left s rows)) ≡ length part + length (joined (parts_left s rest))
length_kept s cut found = length_joined (parts_kept s cut found)

-- ---- the whole

pub for_room : (rule : Rule) (h : List ℕ) (parts : List (List ℕ)) → Room (size_for rule h parts) (length h)
unfolding size_for part_size Room
for_room rule h [] = tt
for_room rule h (part ∷ rest) = by_test (λ (s : Result (Option Area) Refusal). Room s (length h)) (is_sot part) (λ _. size_room rule h (be 2 part 4)) (λ _. tt)

-- the first part chooses
pub for_first : (rule : Rule) (h : List ℕ) {parts rest : List (List ℕ)} {part : List ℕ} → parts ≡ part ∷ rest → size_for rule h parts ≡ part_size rule h part
unfolding size_for
for_first rule h e = ap (size_for rule h) e

pub for_none : (rule : Rule) (h : List ℕ) {parts : List (List ℕ)} → parts ≡ [] → size_for rule h parts ≡ Ok None
unfolding size_for
for_none rule h e = ap (size_for rule h) e

pub assembled_is : (rule : Rule) (h : List ℕ) (parts : List (List ℕ)) → assembled rule h parts ≡ cut_to (size_for rule h parts) h ++ (joined parts ++ bytes_of 2 EOC)
unfolding assembled
assembled_is rule h parts = refl

-- header, parts and EOC: the header as it is with no part, or with a first part that has no Isot; else rewritten for its tile
pub assembled_none : (rule : Rule) (h : List ℕ) → assembled rule h [] ≡ h ++ bytes_of 2 EOC
unfolding assembled joined size_for cut_to
assembled_none rule h = refl

module _ (rule : Rule) (h part : List ℕ) (rest : List (List ℕ)) where
  pub assembled_tile : is_sot part ≡ true → assembled rule h (part ∷ rest) ≡ rewritten rule h (be 2 part 4) ++ (joined (part ∷ rest) ++ bytes_of 2 EOC)
  unfolding assembled size_for rewritten
  assembled_tile e = ap (λ (s : Result (Option Area) Refusal). cut_to s h ++ (joined (part ∷ rest) ++ bytes_of 2 EOC)) (part_sot part rule h e)

  pub assembled_other : is_sot part ≡ false → assembled rule h (part ∷ rest) ≡ h ++ (joined (part ∷ rest) ++ bytes_of 2 EOC)
  unfolding assembled size_for cut_to
  assembled_other e = ap (λ (s : Result (Option Area) Refusal). cut_to s h ++ (joined (part ∷ rest) ++ bytes_of 2 EOC)) (part_other part rule h e)

-- The size needed, whatever the rule.
pub length_assembled : (rule : Rule) (h : List ℕ) (parts : List (List ℕ)) → length (assembled rule h parts) ≡ length h + 2 + length (joined parts)
unfolding assembled
length_assembled rule h parts =
    simp length-append
    (omega (arith, length_cut (size_for rule h parts) h (for_room rule h parts), length_bytes 2 EOC))

-- ---- a size that a u64 does not hold

saturated_room : (needed room : ℕ) → room < 2 ^ 64 - 1 → with_room (min needed (2 ^ 64 - 1)) room ≡ with_room needed room
unfolding with_room
saturated_room needed room h = by_size (leb needed (2 ^ 64 - 1)) refl
  where
    by_size : (b : Bool) → leb needed (2 ^ 64 - 1) ≡ b → with_room (min needed (2 ^ 64 - 1)) room ≡ with_room needed room
    by_size true e = ap (λ (n : ℕ). with_room n room) (min-eq_left {n = needed} {m = 2 ^ 64 - 1} (leb-true _ _ e))
    by_size false e =
        let past : 2 ^ 64 - 1 < needed = leb-false _ _ e in
        let short : room < needed = omega arith in
        rw (min-eq_right {n = 2 ^ 64 - 1} {m = needed} (omega arith), lt-leb (2 ^ 64 - 1) room h, lt-leb needed room short)

-- the room is below 2^64-1, so the least of the two sizes is judged as the size needed is
pub judged_saturated : (s : Result (Option Area) Refusal) (needed room : ℕ) → room < 2 ^ 64 - 1 → judged s (min needed (2 ^ 64 - 1)) room ≡ judged s needed room
unfolding judged
judged_saturated (Ok None) needed room h = saturated_room needed room h
judged_saturated (Ok (Some a)) needed room h = saturated_room needed room h
judged_saturated (Err r) needed room h = refl
