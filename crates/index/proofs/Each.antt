-- Something that holds of each key of a list; and what holds of the tiles of a run's keys, and of those of the runs below a tile.
use Prim.Native.Nat.{ℕ, zero, suc, ◌+◌, ◌≤◌, ◌<◌}
use native.Mathlib.Omega.{arith}
use mathlib.Core.Path.{◌≡◌}
use mathlib.Core.List.{List, [], ◌∷◌, ◌++◌}
use lib.ListN.{length, get_or}
use lib.Dec.{eqb}
use Rattle.numbers.proofs.Choice.{by_test}
use Rattle.types.specs.declared.TilePartEntry.{TilePartEntry}
use Rattle.index.specs.Index.{numbered, tile_of, run_from, runs_below}

pub data Each (P : ℕ → Type 0) : List ℕ → Type 0 where
  none : Each P []
  more : {k : ℕ} {rest : List ℕ} → P k → Each P rest → Each P (k ∷ rest)

pub each_map : {P Q : ℕ → Type 0} → ((k : ℕ) → P k → Q k) → {keys : List ℕ} → Each P keys → Each Q keys
each_map f none = none
each_map f (more {k = k} p rest) = more (f k p) (each_map f rest)

pub each_append : {P : ℕ → Type 0} {a b : List ℕ} → Each P a → Each P b → Each P (a ++ b)
each_append none q = q
each_append (more p rest) q = more p (each_append rest q)

pub each_at : {P : ℕ → Type 0} {keys : List ℕ} → Each P keys → (i : ℕ) → i < length keys → P (get_or keys i 0)
each_at none i h = absurd (omega arith)
each_at (more p rest) zero h = p
each_at (more p rest) (suc i) h = each_at rest i (omega arith)

pub each_of : {P : ℕ → Type 0} (keys : List ℕ) → ((i : ℕ) → i < length keys → P (get_or keys i 0)) → Each P keys
each_of [] f = none
each_of (k ∷ rest) f = more (f zero (omega arith)) (each_of rest (λ i h. f (suc i) (omega arith)))

-- ---- tiles

abbrev pub Tile : ℕ → ℕ → Type 0
Tile t k = tile_of k ≡ t

abbrev pub Below : ℕ → ℕ → Type 0
Below t k = tile_of k < t

abbrev pub From : ℕ → ℕ → Type 0
From t k = t ≤ tile_of k

pub run_tile : (t i : ℕ) (es : List TilePartEntry) → i + length es ≤ numbered → Each (Tile t) (run_from t i es)
unfolding run_from
run_tile t i [] few = none
run_tile t i (e ∷ rest) few =
    let tail = run_tile t (i + 1) rest (omega arith) in
    by_test (Each (Tile t)) (eqb e.tile_index t) (λ yes. more (omega arith) tail) (λ no. tail)

pub runs_below_lem : (t i : ℕ) (es : List TilePartEntry) → i + length es ≤ numbered → Each (Below t) (runs_below t i es)
unfolding runs_below
runs_below_lem zero i es few = none
runs_below_lem (suc t) i es few =
    each_append (each_map (λ k p. omega arith) (runs_below_lem t i es few)) (each_map (λ k p. omega arith) (run_tile t i es few))
