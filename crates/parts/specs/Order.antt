-- Whether the tile-parts of one tile stand in order (docs/RULES.md, "Tile-parts in order"): of a list of records, whether a table has them as rows or as
-- themselves. And the same in one pass, a record at a time.
use Rattle.std.specs.Prelude.{ℕ, ◌+◌, ◌≡◌, ◌⊎◌, Bool, true, false, cond, not, ◌&&◌, ◌||◌, List, [], ◌∷◌, map, length, eqb, Option, Some, None}
use Rattle.types.specs.declared.PartNumbers.{PartNumbers}
use Rattle.types.specs.declared.PartNumbers.TheVariants.{Known, NotKnown}
use Rattle.types.specs.declared.TilePartEntry.{TilePartEntry}
use Rattle.parts.specs.Tiles.{of_tile}
use Rattle.parts.specs.declared.order.Due.{Due}

-- the numbers of a tile's entries, in table order
unfoldable pub numbers_of : ℕ → List TilePartEntry → List PartNumbers
numbers_of tile es = map (λ (e : TilePartEntry). e.numbers) (of_tile tile es)

-- the k-th of n entries, from 0: TPsot is k, and TNsot is 0 or n
unfoldable pub numbered_as : ℕ → ℕ → PartNumbers → Bool
numbered_as n k (Known t m) = eqb t k && (eqb m 0 || eqb m n)
numbered_as n k NotKnown = false

-- of n entries, those from the k-th on
unfoldable pub run_from : ℕ → ℕ → List PartNumbers → Bool
unfolding numbered_as
run_from n k [] = true
run_from n k (p ∷ rest) = numbered_as n k p && run_from n (k + 1) rest

-- there is one, and they run from 0 on
unfoldable pub runs : List PartNumbers → Bool
unfolding run_from
runs [] = false
runs (p ∷ rest) = run_from (length (p ∷ rest)) 0 (p ∷ rest)

-- the answer for one tile
unfoldable pub in_order : ℕ → List TilePartEntry → Bool
unfolding numbers_of runs
in_order tile es = runs (numbers_of tile es)

-- the same as a list: (0, 0 or n), (1, 0 or n), .. for n entries, from the k-th on
pub data Counted (n : ℕ) : ℕ → List PartNumbers → Type 0 where
  none : {k : ℕ} → Counted n k []
  more : {k m : ℕ} {rest : List PartNumbers} → (m ≡ 0) ⊎ (m ≡ n) → Counted n (k + 1) rest → Counted n k (Known k m ∷ rest)

-- an answer's number for C
abbrev pub order_number : Bool → ℕ
order_number true = 1
order_number false = 0

-- ---- in one pass

-- so many of the tile's were passed, which gave this TNsot, or 0
abbrev pub due_of : ℕ → ℕ → Due
due_of passed given = record { passed = passed; given = given }

-- one more of the tile's, behind those
unfoldable pub next_numbers : PartNumbers → Due → Option Due
next_numbers (Known t m) due =
    cond (eqb t due.passed)
    (cond (eqb m 0) (Some (due_of (due.passed + 1) due.given))
    (cond (eqb due.given 0) (Some (due_of (due.passed + 1) m)) (cond (eqb m due.given) (Some (due_of (due.passed + 1) due.given)) None)))
    None
next_numbers NotKnown due = None

-- one more record: another tile's is left out
unfoldable pub order_step : TilePartEntry → ℕ → Due → Option Due
unfolding next_numbers
order_step e tile due = cond (eqb e.tile_index tile) (next_numbers e.numbers due) (Some due)

-- behind the last
unfoldable pub order_end : Due → Bool
order_end due = not (eqb due.passed 0) && (eqb due.given 0 || eqb due.given due.passed)
