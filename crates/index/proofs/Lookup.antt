-- A tile's run in the index is the run that the index was made of: the halving finds where keys of lower tiles end, and the index is what stands below the
-- tile, the tile's run, and what stands above it.
use Prim.Native.Nat.{ℕ, zero, suc, ◌+◌, ◌-◌, ◌≤◌, ◌<◌, ◌^◌}
use native.Mathlib.Nat.{add-zero, add-suc, pow-suc}
use native.Mathlib.Omega.{arith}
use mathlib.Core.Path.{◌≡◌, refl, sym, ap, ap₂, ◌∙◌}
use mathlib.Core.List.{List, [], ◌∷◌, ◌++◌, append_assoc, append-nil}
use lib.ListN.{length, take, drop, get_or, length-append, get_or-append}
use lib.Seq.{take-append_seam, drop-append_seam, get_or-append-add}
use lib.Dec.{ltb, eqb}
use borrow.Author.Tests.{ltb-true, ltb-false}
use Rattle.numbers.proofs.Choice.{by_bool}
use Rattle.types.specs.declared.TilePartEntry.{TilePartEntry}
use Rattle.parts.specs.Tiles.{of_tile}
use Rattle.index.specs.Index.{numbered, tile_of, run_from, runs_below, index_from, index_of}
use Rattle.index.specs.Run.{middle, halved, first_from, run_in}
use Rattle.index.proofs.Each.{Each, none, each_map, each_append, each_at, Tile, Below, From, run_tile, runs_below_lem}
use Rattle.index.proofs.SortLaws.{runs_fit}
use Rattle.index.proofs.RunLaws.{halved_end, halved_right, halved_left}

-- ---- the halving

-- below a place all tiles are lower, and from it on none is
record Parted (keys : List ℕ) (tile p : ℕ) : Type 0 where
  below : (i : ℕ) → i < p → tile_of (get_or keys i 0) < tile
  from : (i : ℕ) → p ≤ i → i < length keys → tile ≤ tile_of (get_or keys i 0)

halved_finds : (n : ℕ) (keys : List ℕ) (tile p : ℕ) → Parted keys tile p → (lo hi : ℕ) → lo ≤ p → p ≤ hi → hi ≤ length keys → hi - lo < 2 ^ n → halved n keys tile lo hi ≡ p
halved_finds zero keys tile p parted lo hi low high fits few = halved_end keys tile lo hi 0 (omega arith) ∙ omega arith
halved_finds (suc n) keys tile p parted lo hi low high fits few =
    let m = middle lo hi in
    let half = pow-suc 2 n in
    by_bool (ltb lo hi)
    (λ some.
    let more : lo < hi = ltb-true lo hi some in
    by_bool (ltb (tile_of (get_or keys m 0)) tile)
    (λ less.
    let less' : tile_of (get_or keys m 0) < tile = ltb-true (tile_of (get_or keys m 0)) tile less in
    let under : m < p =
    by_bool (ltb m p) (λ y. ltb-true m p y) (λ no. absurd (omega (arith, parted.from m (ltb-false m p no) (omega arith)))) in
    halved_right keys tile lo hi n more less' ∙ halved_finds n keys tile p parted (m + 1) hi (omega arith) high fits (omega arith))
    (λ not-less.
    let not-less' : tile ≤ tile_of (get_or keys m 0) = ltb-false (tile_of (get_or keys m 0)) tile not-less in
    let over : p ≤ m =
    by_bool (ltb m p) (λ y. absurd (omega (arith, parted.below m (ltb-true m p y)))) (λ no. ltb-false m p no) in
    halved_left keys tile lo hi n more not-less' ∙ halved_finds n keys tile p parted lo m low over (omega arith) (omega arith)))
    (λ none. halved_end keys tile lo hi (suc n) (ltb-false lo hi none) ∙ omega (arith, ltb-false lo hi none))

parted : (tile : ℕ) {a b : List ℕ} → Each (Below tile) a → Each (From tile) b → Parted (a ++ b) tile (length a)
parted tile {a} {b} low high =
    record {
      below = λ i h. rw (get_or-append a b 0 i h) (each_at low i h);
      from = λ i h l.
          let there : i ≡ length a + (i - length a) = omega arith in
          let here : get_or (a ++ b) i 0 ≡ get_or b (i - length a) 0 = ap (λ (j : ℕ). get_or (a ++ b) j 0) there ∙ get_or-append-add a b (i - length a) 0 in
          rw here (each_at high (i - length a) (omega (arith, length-append a b)));
    }

first_found : (tile : ℕ) {a b : List ℕ} (lo : ℕ) → Each (Below tile) a → Each (From tile) b → lo ≤ length a → length (a ++ b) < 2 ^ 64
    → first_from (a ++ b) tile lo ≡ length a
unfolding first_from
first_found tile {a} {b} lo low high h short =
    halved_finds 64 (a ++ b) tile (length a) (parted tile low high) lo (length (a ++ b)) h (omega (arith, length-append a b)) (omega arith) (omega arith)

-- a run between lower tiles and higher ones
run_found : (tile : ℕ) {a b c : List ℕ} → Each (Below tile) a → Each (Tile tile) b → Each (From (tile + 1)) c → length (a ++ (b ++ c)) < 2 ^ 64
    → run_in (a ++ (b ++ c)) tile ≡ b
unfolding run_in
run_found tile {a} {b} {c} low run high short =
    let keys = a ++ (b ++ c) in
    let one : first_from keys tile 0 ≡ length a =
    first_found tile {a = a} {b = b ++ c} 0 low (each_append (each_map (λ k p. omega arith) run) (each_map (λ k p. omega arith) high)) (omega arith) short in
    let lower : Each (Below (tile + 1)) (a ++ b) = each_append (each_map (λ k p. omega arith) low) (each_map (λ k p. omega arith) run) in
    let same : keys ≡ (a ++ b) ++ c = sym (append_assoc a b c) in
    let two : first_from keys (tile + 1) (length a) ≡ length a + length b =
    ap (λ (l : List ℕ). first_from l (tile + 1) (length a)) same
    ∙ first_found (tile + 1) {a = a ++ b} {b = c} (length a) lower high (omega (arith, length-append a b)) (omega (arith, ap length same))
    ∙ length-append a b in
    let long : length a + length b - length a ≡ length b = omega arith in
    ap (λ (n : ℕ). take (first_from keys (tile + 1) n - n) (drop n keys)) one
    ∙ ap₂ (λ (n : ℕ) (l : List ℕ). take n l) (ap (λ (n : ℕ). n - length a) two ∙ long) (drop-append_seam a (b ++ c))
    ∙ take-append_seam b c

-- in nothing there is none
pub run_nothing : (tile : ℕ) → run_in [] tile ≡ []
run_nothing tile = run_found tile {a = []} {b = []} {c = []} none none none (omega arith)

-- ---- the index, around a tile

-- the runs of so many tiles, from one on
unfoldable runs_over : ℕ → ℕ → ℕ → List TilePartEntry → List ℕ
runs_over tile zero i es = []
runs_over tile (suc m) i es = runs_over tile m i es ++ run_from (tile + m) i es

over_from : (tile m i : ℕ) (es : List TilePartEntry) → i + length es ≤ numbered → Each (From tile) (runs_over tile m i es)
unfolding runs_over
over_from tile zero i es few = none
over_from tile (suc m) i es few = each_append (over_from tile m i es few) (each_map (λ k p. omega arith) (run_tile (tile + m) i es few))

over_all : (tile m i : ℕ) (es : List TilePartEntry) → runs_below (tile + m) i es ≡ runs_below tile i es ++ runs_over tile m i es
unfolding runs_below runs_over
over_all tile zero i es = ap (λ (n : ℕ). runs_below n i es) (add-zero tile) ∙ sym (append-nil (runs_below tile i es))
over_all tile (suc m) i es =
    ap (λ (n : ℕ). runs_below n i es) (add-suc tile m)
    ∙ ap (λ (l : List ℕ). l ++ run_from (tile + m) i es) (over_all tile m i es)
    ∙ append_assoc (runs_below tile i es) (runs_over tile m i es) (run_from (tile + m) i es)

around : (tile i : ℕ) (es : List TilePartEntry) → tile < 65536
    → index_from i es ≡ runs_below tile i es ++ (run_from tile i es ++ runs_over (tile + 1) (65535 - tile) i es)
unfolding index_from runs_below
around tile i es h =
    let all : 65536 ≡ suc tile + (65535 - tile) = omega arith in
    let next : suc tile ≡ tile + 1 = omega arith in
    ap (λ (n : ℕ). runs_below n i es) all
    ∙ over_all (suc tile) (65535 - tile) i es
    ∙ ap (λ (n : ℕ). runs_below (suc tile) i es ++ runs_over n (65535 - tile) i es) next
    ∙ append_assoc (runs_below tile i es) (run_from tile i es) (runs_over (tile + 1) (65535 - tile) i es)

pub length_run : (tile i : ℕ) (es : List TilePartEntry) → length (run_from tile i es) ≡ length (of_tile tile es)
unfolding run_from of_tile
length_run tile i [] = refl
length_run tile i (e ∷ rest) = by_bool (eqb e.tile_index tile) (λ yes. rw yes (ap suc (length_run tile (i + 1) rest))) (λ no. rw no (length_run tile (i + 1) rest))

index_fit : (i : ℕ) (es : List TilePartEntry) → i + length es ≤ numbered → length (index_from i es) ≤ length es
unfolding index_from
index_fit i es few = runs_fit 65536 i es few

pub run_there : (tile : ℕ) (es : List TilePartEntry) → tile < 65536 → length es ≤ numbered → run_in (index_of es) tile ≡ run_from tile 0 es
run_there tile es h few =
    let room : 0 + length es ≤ numbered = omega arith in
    let low = runs_below tile 0 es in
    let run = run_from tile 0 es in
    let high = runs_over (tile + 1) (65535 - tile) 0 es in
    let is = around tile 0 es h in
    let fit : length (index_from 0 es) ≤ length es = index_fit 0 es room in
    ap (λ (l : List ℕ). run_in l tile) is
    ∙ run_found tile {a = low} {b = run} {c = high} (runs_below_lem tile 0 es room) (run_tile tile 0 es room) (over_from (tile + 1) (65535 - tile) 0 es room) (omega (arith, ap length is, fit))
