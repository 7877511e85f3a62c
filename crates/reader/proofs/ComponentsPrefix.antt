-- A prefix that holds SIZ whole is enough: with more bytes behind it the check and each component are the same.
use Prim.Native.Nat.{ℕ, zero, suc, ◌+◌, ◌≤◌, ◌<◌}
use native.Mathlib.Omega.{arith}
use mathlib.Core.Path.{◌≡◌, refl, sym, ap, ◌∙◌}
use mathlib.Core.Bool.{true}
use mathlib.Core.List.{List, [], ◌∷◌, ◌++◌}
use lib.ListN.{length, replicate, length-append, get_or-append}
use lib.Dec.{leb, ltb}
use borrow.Author.Tests.{le-leb, leb-true, ltb-true, ltb-false}
use Rattle.std.specs.Prelude.{Some, None, Result, Ok, Err}
use Rattle.numbers.specs.Bytes.{be}
use Rattle.numbers.proofs.BytesLaws.{be_front}
use Rattle.numbers.proofs.Choice.{by_bool}
use Rattle.types.specs.Markers.{SOC, SIZ}
use Rattle.types.specs.Siz.{lsiz, csiz, component}
use Rattle.types.specs.Refusals.{refusal}
use Rattle.types.specs.declared.Area.{Area}
use Rattle.header.specs.Step.{segment_end}
use Rattle.header.specs.Parse.{stands}
use Rattle.header.proofs.ParseLaws.{stands_front}
use Rattle.tile.specs.Siz.{marker}
use Rattle.tile.specs.AnnexB.{grid_tile}
use Rattle.tile.specs.Original.{in_grid, tile_area}
use Rattle.tile.specs.Rules.{image_area, by_annex_b, placed_by}
use Rattle.tile.specs.declared.rules.Rule.{Rule}
use Rattle.tile.specs.declared.rules.Rule.TheVariants.{AnnexB, Original, InPlace}
use Rattle.reader.specs.Components.{siz_whole, count_held, apart, all_apart, ordered, components_read, at_tile, components_in_tile, component_at, is_there, component_in, chosen, component_of, component_in_tile}
use Rattle.reader.specs.declared.components.Components.{Components}
use Rattle.reader.proofs.ComponentsLaws.{whole_fits, all_inside, Accepted, accepted}
use Rattle.reader.proofs.ComponentsAreas.{InImage, tile_inside}
use Rattle.reader.proofs.ComponentsSiz.{listed, unlisted}
use Rattle.types.specs.declared.Refusal.{Refusal}
use Rattle.types.specs.declared.Reason.TheVariants.{NoSoc, NoSiz}

-- ---- what is read of the front

apart_front : (p t : List ℕ) (n : ℕ) → component marker n ≤ length p → all_apart (p ++ t) n ≡ all_apart p n
unfolding all_apart apart
apart_front p t zero h = refl
apart_front p t (suc n) h =
    rw (apart_front p t n (omega arith), get_or-append p t 0 (component marker n + 1) (omega arith), get_or-append p t 0 (component marker n + 2) (omega arith))

at_front : (p t : List ℕ) (a : Area) (at : ℕ) → at + 3 ≤ length p → component_at (p ++ t) a at ≡ component_at p a at
unfolding component_at
at_front p t a at h =
    rw (get_or-append p t 0 at (omega arith), get_or-append p t 0 (at + 1) (omega arith), get_or-append p t 0 (at + 2) (omega arith))

image_front : (p t : List ℕ) → 24 ≤ length p → image_area (p ++ t) ≡ image_area p
unfolding image_area
image_front p t h = rw (be_front 4 p t 16 (omega arith), be_front 4 p t 20 (omega arith), be_front 4 p t 8 (omega arith), be_front 4 p t 12 (omega arith))

grid_front : (p t : List ℕ) (tile : ℕ) → 40 ≤ length p → grid_tile (p ++ t) tile ≡ grid_tile p tile
unfolding grid_tile
grid_front p t tile h =
    rw (be_front 4 p t 8 (omega arith), be_front 4 p t 12 (omega arith), be_front 4 p t 16 (omega arith), be_front 4 p t 20 (omega arith), be_front 4 p t 24 (omega arith), be_front 4 p t 28 (omega arith), be_front 4 p t 32 (omega arith), be_front 4 p t 36 (omega arith))

tile_front : (rule : Rule) (p t : List ℕ) (tile : ℕ) → 40 ≤ length p → placed_by rule (p ++ t) tile ≡ placed_by rule p tile
unfolding placed_by tile_area in_grid
tile_front AnnexB p t tile h = ap by_annex_b (grid_front p t tile h)
tile_front InPlace p t tile h = ap by_annex_b (grid_front p t tile h)
tile_front Original p t tile h =
    rw (be_front 4 p t 8 (omega arith), be_front 4 p t 12 (omega arith), be_front 4 p t 16 (omega arith), be_front 4 p t 20 (omega arith), be_front 4 p t 24 (omega arith), be_front 4 p t 28 (omega arith))

-- ---- the check

module _ (p t : List ℕ) (whole : siz_whole p ≡ true) where
  lsiz_front : lsiz (p ++ t) marker ≡ lsiz p marker
  lsiz_front = be_front 2 p t 4 (whole_fits p whole).0

  whole_front : siz_whole (p ++ t) ≡ true
  unfolding siz_whole segment_end
  whole_front =
      let fits = whole_fits p whole in
      rw (le-leb 6 (length (p ++ t)) (rw length-append (omega arith)), lsiz_front, le-leb (2 + (2 + lsiz p marker)) (length (p ++ t)) (rw length-append (omega arith)))

  -- the count may lie behind the prefix, but then the length alone refuses it
  held_front : count_held (p ++ t) ≡ count_held p
  unfolding count_held
  held_front =
      let fits = whole_fits p whole in
      by_bool (leb 41 (lsiz p marker))
      (λ l. let long : 41 ≤ lsiz p marker = leb-true _ _ l in rw (lsiz_front, be_front 2 p t 40 (omega arith)))
      (λ l. rw (lsiz_front, l))

  -- The check is the same, also where it refuses.
  pub prefix_enough : components_read (p ++ t) ≡ components_read p
  unfolding components_read
  prefix_enough =
      let fits = whole_fits p whole in
      let soc = stands_front p t 0 SOC (omega arith) in
      let siz = stands_front p t marker SIZ (omega arith) in
      by_bool (count_held p)
      (λ held. let inside = all_inside p whole held in
      let n : csiz (p ++ t) marker ≡ csiz p marker = be_front 2 p t 40 (omega arith) in
      let steps : all_apart (p ++ t) (csiz p marker) ≡ all_apart p (csiz p marker) = apart_front p t (csiz p marker) inside.1 in
      let area = image_front p t (omega arith) in
      rw (soc, siz, whole_front, whole, held_front, n, steps, ap ordered area, area))
      (λ fails. rw (soc, siz, whole_front, whole, held_front, fails))

-- After a check that accepts, so is one component by itself, in any area.
pub prefix_enough_within : (p t : List ℕ) (c : Components) → components_read p ≡ Ok c → (a : Area) (k : ℕ) → component_in (p ++ t) a k ≡ component_in p a k
prefix_enough_within p t c e a k =
    let y : Accepted p c = accepted p c e in
    let inside = all_inside p y.whole y.held in
    let both : components_read (p ++ t) ≡ Ok c = prefix_enough p t y.whole ∙ e in
    by_bool (ltb k c.count)
    (λ l. let h : k < c.count = ltb-true k c.count l in
    listed (p ++ t) c both a k h ∙ ap (λ p. Ok (Some p)) (at_front p t a (component marker k) (omega (arith, y.count))) ∙ sym (listed p c e a k h))
    (λ l. let h : c.count ≤ k = ltb-false k c.count l in unlisted (p ++ t) c both a k h ∙ sym (unlisted p c e a k h))

-- ---- a tile, and a component

module _ (p t : List ℕ) where
  tile_read : (rule : Rule) (tile : ℕ) (r : Result Components Refusal) → components_read p ≡ r → at_tile r (placed_by rule (p ++ t) tile) ≡ at_tile r (placed_by rule p tile)
  unfolding at_tile
  tile_read rule tile (Ok c) e =
      let y : Accepted p c = accepted p c e in
      let inside = all_inside p y.whole y.held in
      ap (at_tile (Ok c)) (tile_front rule p t tile (omega arith))
  tile_read rule tile (Err r) e = refl

  chosen_front : (r : Result Components Refusal) → ((c : Components) → r ≡ Ok c → (i : Components) × (components_read p ≡ Ok i)) → (k : ℕ)
      → chosen r (p ++ t) k ≡ chosen r p k
  unfolding chosen
  chosen_front (Ok c) f k = let i = f c refl in prefix_enough_within p t i.0 i.1 c.area k
  chosen_front (Err r) f k = refl

  module _ (whole : siz_whole p ≡ true) where
    pub prefix_enough_tile : (rule : Rule) (tile : ℕ) → components_in_tile rule (p ++ t) tile ≡ components_in_tile rule p tile
    unfolding components_in_tile
    prefix_enough_tile rule tile =
        ap (λ (r : Result Components Refusal). at_tile r (placed_by rule (p ++ t) tile)) (prefix_enough p t whole) ∙ tile_read rule tile (components_read p) refl

    pub prefix_enough_component : (k : ℕ) → component_of (p ++ t) k ≡ component_of p k
    unfolding component_of
    prefix_enough_component k = ap (λ (r : Result Components Refusal). chosen r (p ++ t) k) (prefix_enough p t whole) ∙ chosen_front (components_read p) (λ c e. (c, e)) k

    pub prefix_enough_component_tile : (rule : Rule) (tile k : ℕ) → component_in_tile rule (p ++ t) tile k ≡ component_in_tile rule p tile k
    unfolding component_in_tile
    prefix_enough_component_tile rule tile k =
        ap (λ (r : Result Components Refusal). chosen r (p ++ t) k) (prefix_enough_tile rule tile)
        ∙ chosen_front (components_in_tile rule p tile) (λ c e. let i : InImage p c = tile_inside rule p tile c e in (i.image, i.read)) k

-- ---- the premises are needed

-- no bytes at all are refused otherwise than SOC alone
pub prefix_needs_siz : (components_read [] ≡ Err (refusal NoSoc 0)) × (components_read (0xff ∷ 0x4f ∷ []) ≡ Err (refusal NoSiz 2))
unfolding components_read stands be
prefix_needs_siz = (refl, refl)

-- a whole SIZ of length 2, and more bytes that count one component of 8 bits
abbrev short : List ℕ
short = 0xff ∷ 0x4f ∷ 0xff ∷ 0x51 ∷ 0 ∷ 2 ∷ []

abbrev more : List ℕ
more = replicate 34 0 ++ (0 ∷ 1 ∷ 7 ∷ 1 ∷ 1 ∷ [])

pub short_whole : siz_whole short ≡ true
unfolding siz_whole segment_end be
short_whole = refl

pub within_needs_check : (a : Area)
    → (component_in short a 0 ≡ Ok None) × (component_in (short ++ more) a 0 ≡ Ok (Some (component_at (short ++ more) a (component marker 0))))
unfolding component_in is_there apart be
within_needs_check a = (refl, refl)
