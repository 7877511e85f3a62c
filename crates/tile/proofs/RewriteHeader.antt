-- The header, the answer and the output of a rewrite: only a header of 40 bytes is cut, its length and the bytes outside its eight fields stay,
-- and each way that a call ends.
use Prim.Native.Nat.{ℕ, ◌-◌, ◌≤◌}
use native.Mathlib.Omega.{arith}
use mathlib.Core.Path.{◌≡◌, refl, sym, ap, ◌∙◌}
use mathlib.Core.Bool.{◌&&◌}
use mathlib.Core.List.{List, ◌++◌, append_assoc}
use lib.ListN.{length, take, drop, length-append}
use lib.Dec.{leb, eqb}
use borrow.Author.Tests.{leb-true}
use Rattle.std.specs.Prelude.{Option, Some, None, Result, Ok, Err}
use Rattle.numbers.specs.Bytes.{be, put}
use Rattle.numbers.proofs.BytesLaws.{length_bytes, length_put, put_put, put_start, take_put, drop_put, put_inside}
use Rattle.types.specs.Markers.{SIZ}
use Rattle.types.specs.Siz.{xtsiz, ytsiz}
use Rattle.types.specs.declared.Area.{Area}
use Rattle.types.specs.declared.Refusal.{Refusal}
use Rattle.tile.specs.Siz.{marker, pair, one_tile}
use Rattle.tile.specs.Rules.{placed_by}
use Rattle.tile.specs.Rewrite.{sized, moved, cut_by, size_of, size_in, tile_size, cut_to, Ordered, Room, rewritten, with_room, judged, over}
use Rattle.tile.specs.declared.rules.Rule.{Rule}
use Rattle.tile.specs.declared.rules.Rule.TheVariants.{AnnexB, Original, InPlace}
use Rattle.tile.proofs.RulesLaws.{tile_within}
use Rattle.numbers.proofs.Choice.{by_test}

-- ---- the eight fields

length_pair : (across down : ℕ) → length (pair across down) ≡ 8
unfolding pair
length_pair across down = simp (length-append, length_bytes)

pub length_one : (a : Area) → length (one_tile a) ≡ 32
unfolding one_tile
length_one a = simp (length-append, length_pair)

-- four pairs written one after the other
pub put_one : (s : List ℕ) (a : Area) → 40 ≤ length s
    → put (put (put (put s 8 (pair a.x1 a.y1)) 16 (pair a.x0 a.y0)) 24 (pair (a.x1 - a.x0) (a.y1 - a.y0))) 32 (pair a.x0 a.y0) ≡ put s 8 (one_tile a)
unfolding one_tile
put_one s a h =
    let e : List ℕ = pair a.x1 a.y1 in
    let o : List ℕ = pair a.x0 a.y0 in
    let t : List ℕ = pair (a.x1 - a.x0) (a.y1 - a.y0) in
    let le : length e ≡ 8 = length_pair _ _ in
    let lo : length o ≡ 8 = length_pair _ _ in
    let lt : length t ≡ 8 = length_pair _ _ in
    let two : length (e ++ o) ≡ 16 = simp length-append (omega arith) in
    let three : length ((e ++ o) ++ t) ≡ 24 = simp length-append (omega arith) in
    rw (put_put s 8 e o 8 le (omega arith), put_put s 8 (e ++ o) t 16 two (omega arith), put_put s 8 ((e ++ o) ++ t) o 24 three (omega arith))
    (simp append_assoc)

-- ---- the header

module _ (n : ℕ) (long : 40 ≤ n) where
  moved_room : (a : Area) (xt yt : ℕ) → Room (moved a xt yt) n
  unfolding moved sized Room
  moved_room a xt yt =
      by_test (λ (s : Result (Option Area) Refusal). Room s n) (eqb (a.x1 - a.x0) xt && eqb (a.y1 - a.y0) yt) (λ _. tt) (λ _. (long, (omega arith, omega arith)))

  by_room : (rule : Rule) (a : Area) (xt yt : ℕ) → Ordered a → Room (cut_by rule a xt yt) n
  unfolding cut_by Room
  by_room AnnexB a xt yt o = moved_room a xt yt
  by_room Original a xt yt o = moved_room a xt yt
  by_room InPlace a xt yt o = (long, o)

  of_room : (rule : Rule) (p : Result Area Refusal) (xt yt : ℕ) → ((a : Area) → p ≡ Ok a → Ordered a) → Room (size_of rule p xt yt) n
  unfolding size_of Room
  of_room rule (Ok a) xt yt o = by_room rule a xt yt (o a refl)
  of_room rule (Err r) xt yt o = tt

pub size_room : (rule : Rule) (h : List ℕ) (tile : ℕ) → Room (tile_size rule h tile) (length h)
unfolding tile_size size_in Room
size_room rule h tile =
    let P : Result (Option Area) Refusal → Type 0 = λ s. Room s (length h) in
    let ordered : (a : Area) → placed_by rule h tile ≡ Ok a → Ordered a = λ a e. let i = tile_within rule h tile a e in (i.wide, i.high) in
    by_test P (leb 40 (length h))
    (λ l. by_test P (eqb (be 2 h 2) SIZ)
    (λ _. of_room (length h) (leb-true _ _ l) rule (placed_by rule h tile) (xtsiz h marker) (ytsiz h marker) ordered)
    (λ _. tt))
    (λ _. tt)

pub cut_room : (s : Result (Option Area) Refusal) (a : Area) (n : ℕ) → s ≡ Ok (Some a) → Room s n → (40 ≤ n) × Ordered a
unfolding Room
cut_room s a n e r = rw e at r

pub cut_as : (s : Result (Option Area) Refusal) (a : Area) (h : List ℕ) → s ≡ Ok (Some a) → cut_to s h ≡ put h 8 (one_tile a)
unfolding cut_to
cut_as s a h e = ap (λ (x : Result (Option Area) Refusal). cut_to x h) e

pub cut_kept : (s : Result (Option Area) Refusal) (h : List ℕ) → ((a : Area) → s ≡ Ok (Some a) → ⊥) → cut_to s h ≡ h
unfolding cut_to
cut_kept (Ok None) h n = refl
cut_kept (Ok (Some a)) h n = absurd (n a refl)
cut_kept (Err r) h n = refl

-- a header written and then cut is the cut header written
pub put_cut : (s : Result (Option Area) Refusal) (a : Area) (h out : List ℕ) → s ≡ Ok (Some a) → Room s (length h) → length h ≤ length out
    → put (put out 0 h) 8 (one_tile a) ≡ put out 0 (cut_to s h)
put_cut s a h out e r room =
    put_inside out 0 h 8 (one_tile a) (omega (arith, length_one a, cut_room s a (length h) e r)) (omega arith)
    ∙ ap (put out 0) (sym (cut_as s a h e))

module _ (P : List ℕ → List ℕ → Type 0) (h : List ℕ) (same : P h h) (cut : (a : Area) → 40 ≤ length h → P (put h 8 (one_tile a)) h) where
  of_cut : (s : Result (Option Area) Refusal) → Room s (length h) → P (cut_to s h) h
  unfolding cut_to Room
  of_cut (Ok None) r = same
  of_cut (Ok (Some a)) r = cut a r.0
  of_cut (Err x) r = same

pub length_cut : (s : Result (Option Area) Refusal) (h : List ℕ) → Room s (length h) → length (cut_to s h) ≡ length h
length_cut s h r = of_cut (λ a b. length a ≡ length b) h refl (λ a l. length_put h 8 (one_tile a) (omega (arith, length_one a))) s r

pub length_rewritten : (rule : Rule) (h : List ℕ) (tile : ℕ) → length (rewritten rule h tile) ≡ length h
unfolding rewritten
length_rewritten rule h tile = length_cut (tile_size rule h tile) h (size_room rule h tile)

-- SOC, the SIZ marker, Lsiz and Rsiz stay
pub rewritten_front : (rule : Rule) (h : List ℕ) (tile : ℕ) → take 8 (rewritten rule h tile) ≡ take 8 h
unfolding rewritten
rewritten_front rule h tile =
    of_cut (λ a b. take 8 a ≡ take 8 b) h refl (λ a l. take_put h 8 (one_tile a) (omega arith)) (tile_size rule h tile) (size_room rule h tile)

-- and all from Csiz on
pub rewritten_rest : (rule : Rule) (h : List ℕ) (tile : ℕ) → drop 40 (rewritten rule h tile) ≡ drop 40 h
unfolding rewritten
rewritten_rest rule h tile =
    of_cut (λ a b. drop 40 a ≡ drop 40 b) h refl (λ a l. drop_put h 8 (one_tile a) 32 (length_one a) (omega arith)) (tile_size rule h tile) (size_room rule h tile)

-- ---- the answer and the output

-- an answer of so many bytes has all that is needed, and the room
pub room_bytes : (needed room n : ℕ) → with_room needed room ≡ Ok n → (needed ≡ n) × (needed ≤ room)
unfolding with_room
room_bytes needed room n e =
    by_test (λ (a : Result ℕ Refusal). a ≡ Ok n → (needed ≡ n) × (needed ≤ room)) (leb needed room)
    (λ l f. (cc, leb-true _ _ l))
    (λ _ f. (cc))
    e

pub judged_bytes : (s : Result (Option Area) Refusal) (needed room n : ℕ) → judged s needed room ≡ Ok n → (needed ≡ n) × (needed ≤ room)
unfolding judged
judged_bytes (Ok None) needed room n e = room_bytes needed room n e
judged_bytes (Ok (Some a)) needed room n e = room_bytes needed room n e
judged_bytes (Err r) needed room n e = (cc)

pub over_refused : (a : Result ℕ Refusal) (r : Refusal) (bytes out : List ℕ) → a ≡ Err r → over a bytes out ≡ out
unfolding over
over_refused a r bytes out e = ap (λ (x : Result ℕ Refusal). over x bytes out) e

pub over_bytes : (a : Result ℕ Refusal) (n : ℕ) (bytes out : List ℕ) → a ≡ Ok n → length bytes ≡ n → over a bytes out ≡ put out 0 bytes
unfolding over
over_bytes a n bytes out e l =
    ap (λ (x : Result ℕ Refusal). over x bytes out) e ∙ ap (λ (k : ℕ). bytes ++ drop k out) (sym l) ∙ sym (put_start out bytes)
