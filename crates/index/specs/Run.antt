-- A tile's run in a list of keys, found by halving: at most 64 keys are read for each of its two ends. On a list whose tiles do not ascend it is what the
-- halving finds.
use Rattle.std.specs.Prelude.{ℕ, zero, suc, ◌+◌, ◌-◌, ◌/◌, cond, List, length, take, drop, get_or, ltb}
use Rattle.index.specs.Index.{tile_of}

abbrev pub middle : ℕ → ℕ → ℕ
middle lo hi = lo + (hi - lo) / 2

-- the first place between two whose key is of this tile or a later one, by so many halvings
unfoldable pub halved : ℕ → List ℕ → ℕ → ℕ → ℕ → ℕ
halved zero keys tile lo hi = lo
halved (suc n) keys tile lo hi =
    cond (ltb lo hi)
    (cond (ltb (tile_of (get_or keys (middle lo hi) 0)) tile) (halved n keys tile (middle lo hi + 1) hi) (halved n keys tile lo (middle lo hi)))
    lo

unfoldable pub first_from : List ℕ → ℕ → ℕ → ℕ
first_from keys tile from = halved 64 keys tile from (length keys)

-- from the tile's first place to the next tile's
unfoldable pub run_in : List ℕ → ℕ → List ℕ
run_in keys tile = take (first_from keys (tile + 1) (first_from keys tile 0) - first_from keys tile 0) (drop (first_from keys tile 0) keys)

-- for C: 1 where a run has a key, and 0 where it has none
abbrev pub some_number : List ℕ → ℕ
some_number keys = cond (ltb 0 (length keys)) 1 0
