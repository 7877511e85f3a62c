-- The answer for a tile of the standard's tile-parts: yes exactly where it has one and they are indexed as the standard has it.
use Prim.Native.Nat.{ℕ, ◌+◌}
use native.Mathlib.Numerals.{add-one}
use native.Mathlib.Omega.{arith}
use mathlib.Core.Path.{◌≡◌, refl, ap}
use mathlib.Core.Logic.{◌↔◌, ◌⊎◌, inl, inr}
use mathlib.Core.Bool.{true}
use mathlib.Core.List.{List, [], ◌∷◌, map}
use lib.ListN.{length, length-map}
use lib.Dec.{eqb}
use Rattle.numbers.proofs.Choice.{by_bool}
use Rattle.types.specs.declared.PartNumbers.{PartNumbers}
use Rattle.types.specs.declared.PartNumbers.TheVariants.{Known}
use Rattle.parts.specs.Tiles.{of_tile}
use Rattle.parts.specs.Order.{numbers_of, in_order, Counted, none, more}
use Rattle.parts.specs.Iso.{TilePart, length_of, listed_from, parts_of_tile, Indexed, last, next, InOrder}
use Rattle.parts.proofs.OrderAnswers.{in_order_exactly}

abbrev numbered : TilePart → PartNumbers
numbered t = Known t.TPsot t.TNsot

listed_numbers : (tile at : ℕ) (ts : List TilePart) → numbers_of tile (listed_from at ts) ≡ map numbered (parts_of_tile tile ts)
unfolding numbers_of of_tile listed_from parts_of_tile
listed_numbers tile at [] = refl
listed_numbers tile at (t ∷ ts) =
    by_bool (eqb t.Isot tile)
    (λ e. rw e (ap (λ (l : List PartNumbers). numbered t ∷ l) (listed_numbers tile (at + length_of t) ts)))
    (λ e. rw e (listed_numbers tile (at + length_of t) ts))

swapped : {A B : Type 0} → A ⊎ B → B ⊎ A
swapped (inl a) = inr a
swapped (inr b) = inl b

counted_indexed : {n k : ℕ} (ts : List TilePart) → Counted n k (map numbered ts) → Indexed n k ts
counted_indexed [] c = last
counted_indexed (t ∷ ts) (more m rest) = next refl (swapped m) (rw add-one at (counted_indexed {k = t.TPsot + 1} ts rest))

indexed_counted : {n k : ℕ} {ts : List TilePart} → Indexed n k ts → Counted n k (map numbered ts)
indexed_counted last = none
indexed_counted {n} (next {index = k} {more = ts} is m rest) =
    let later : Counted n (k + 1) (map numbered ts) = rw (add-one k) (indexed_counted rest) in
    rw is (more (swapped m) later)

none_numbered : (ts : List TilePart) → map numbered ts ≡ [] → ts ≡ []
none_numbered [] e = refl
none_numbered (t ∷ ts) e = absurd (let long = ap length e in omega arith)

module _ (tile at : ℕ) (ts : List TilePart) where
  exactly : in_order tile (listed_from at ts) ≡ true
      ↔ (map numbered (parts_of_tile tile ts) ≡ [] → ⊥) × Counted (length (map numbered (parts_of_tile tile ts))) 0 (map numbered (parts_of_tile tile ts))
  exactly = rw (listed_numbers tile at ts) at (in_order_exactly tile (listed_from at ts))

  pub order_standard : in_order tile (listed_from at ts) ≡ true ↔ (parts_of_tile tile ts ≡ [] → ⊥) × InOrder tile ts
  order_standard =
      let ps : List TilePart = parts_of_tile tile ts in (
        λ y. (λ z. (exactly.0 y).0 (ap (map numbered) z), counted_indexed ps (rw (length-map ps numbered) at (exactly.0 y).1)),
        λ c. exactly.1 (λ z. c.0 (none_numbered ps z), rw (length-map ps numbered) (indexed_counted c.1)),
      )
