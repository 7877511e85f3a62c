-- The laws of the index by tile, each in the request's words (docs/changes/W-206.md): what a lookup gives, that every entry stands in it once, that its keys
-- ascend, and that an index extended is one made afresh.
use Prim.Native.Nat.{ℕ, zero, suc, ◌+◌, ◌≤◌, ◌<◌}
use native.Mathlib.Nat.{add-zero, zero-add}
use native.Mathlib.Omega.{arith}
use mathlib.Core.Path.{◌≡◌, refl, sym, ap, ap₂, ◌∙◌}
use mathlib.Core.Bool.{cond}
use mathlib.Core.List.{List, [], ◌∷◌, ◌++◌, append_assoc, append-nil}
use lib.ListN.{length, take, drop, length-append, take-append-drop}
use lib.Seq.{length-take-le, drop-append_seam, drop-nil}
use lib.Dec.{eqb, ltb}
use borrow.Author.Tests.{eq-eqb, ne_eqb, eqb-true, eqb-false, ltb-true, ltb-false}
use Rattle.std.specs.Prelude.{Result, Ok, Err}
use Rattle.numbers.proofs.Choice.{by_bool, by_test}
use Rattle.types.specs.declared.TilePartEntry.{TilePartEntry}
use Rattle.types.proofs.RowReading.{All}
use Rattle.types.proofs.RowReading as all
use Rattle.parts.specs.Tiles.{of_tile}
use Rattle.index.specs.Index.{numbered, key_of, tile_of, number_of, run_from, runs_below, index_from, index_of}
use Rattle.index.specs.Run.{run_in}
use Rattle.index.specs.Merge.{merged}
use Rattle.index.specs.Extend.{index_after, index_made, keys_from}
use Rattle.index.specs.Entries.{first_if, picked, entries_by}
use Rattle.index.proofs.Each.{Each, none, more, each_map, each_append, each_at, Below, run_tile, runs_below_lem}
use Rattle.index.proofs.Groups.{groups_all}
use Rattle.index.proofs.SortLaws.{length_keys, keys_runs}
use Rattle.index.proofs.Extending.{run_append, index_merged}
use Rattle.index.proofs.Lookup.{length_run, run_there}
use Rattle.types.specs.declared.Refusal.{Refusal}

-- ---- a lookup gives the tile's entries, in their order; of a tile that is not there none

-- the entries before those that the run is of are passed
picked_run : (tile : ℕ) (front es : List TilePartEntry) → length front + length es ≤ numbered → picked tile (front ++ es) (run_from tile (length front) es) ≡ of_tile tile es
unfolding picked run_from of_tile first_if
picked_run tile front [] few = refl
picked_run tile front (e ∷ rest) few =
    let passed : List TilePartEntry = front ++ (e ∷ []) in
    let same : passed ++ rest ≡ front ++ (e ∷ rest) = append_assoc front (e ∷ []) rest in
    let next : length passed ≡ length front + 1 = length-append front (e ∷ []) in
    let tail : picked tile (front ++ (e ∷ rest)) (run_from tile (length front + 1) rest) ≡ of_tile tile rest =
    ap₂ (λ (l : List TilePartEntry) (n : ℕ). picked tile l (run_from tile n rest)) (sym same) (sym next) ∙ picked_run tile passed rest (omega arith) in
    let number : number_of (key_of tile (length front)) ≡ length front = omega arith in
    let here : drop (number_of (key_of tile (length front))) (front ++ (e ∷ rest)) ≡ e ∷ rest =
    ap (λ (n : ℕ). drop n (front ++ (e ∷ rest))) number ∙ drop-append_seam front (e ∷ rest) in
    by_bool (eqb e.tile_index tile)
    (λ yes.
    let first : first_if tile (e ∷ rest) ≡ e ∷ [] = rw yes in
    rw yes (ap₂ (λ (x y : List TilePartEntry). x ++ y) (ap (first_if tile) here ∙ first) tail))
    (λ no. rw no tail)

no_length : (l : List ℕ) → length l ≡ 0 → l ≡ []
no_length [] e = refl
no_length (k ∷ l) e = absurd (omega arith)

pub run_of_tile : (tile : ℕ) (es : List TilePartEntry) → tile < 65536 → length es ≤ numbered → entries_by (index_of es) tile es ≡ of_tile tile es
unfolding entries_by
run_of_tile tile es h few = ap (picked tile es) (run_there tile es h few) ∙ picked_run tile [] es (omega arith)

pub absent_empty : (tile : ℕ) (es : List TilePartEntry) → tile < 65536 → length es ≤ numbered → of_tile tile es ≡ [] → run_in (index_of es) tile ≡ []
absent_empty tile es h few none' = run_there tile es h few ∙ no_length (run_from tile 0 es) (length_run tile 0 es ∙ ap length none')

-- ---- extended is afresh, for any cut

pub extended_afresh : (a b : List TilePartEntry) → length a + length b ≤ numbered → merged (index_of a) (index_from (length a) b) ≡ index_of (a ++ b)
extended_afresh a b few =
    ap (λ (n : ℕ). merged (index_of a) (index_from n b)) (sym (zero-add (length a))) ∙ index_merged 0 a b (omega arith)

-- so what a call leaves is what making it would leave, where what was lent is the index of the old entries
pub call_afresh : (r : Result ℕ Refusal) (es : List TilePartEntry) (old : ℕ) (index : List ℕ) → old ≤ length es → length es ≤ numbered → take old index ≡ index_of (take old es)
    → index_after r es old index ≡ index_made r es index
unfolding index_after index_made
call_afresh (Ok n) es old index h few was =
    let cut : length (take old es) ≡ old = length-take-le old es h in
    ap (λ (l : List ℕ). l ++ drop n index)
    (ap₂ (λ (l : List ℕ) (m : ℕ). merged l (index_from m (drop old es))) was (sym cut)
    ∙ extended_afresh (take old es) (drop old es) (omega (arith, ap length (take-append-drop old es), length-append (take old es) (drop old es)))
    ∙ ap index_of (take-append-drop old es))
call_afresh (Err x) es old index h few was = refl

-- ---- a tile that gained nothing

pub same_run : (tile : ℕ) (a b : List TilePartEntry) → tile < 65536 → length a + length b ≤ numbered → of_tile tile b ≡ [] → run_in (index_of (a ++ b)) tile ≡ run_in (index_of a) tile
same_run tile a b h few none' =
    run_there tile (a ++ b) h (omega (arith, length-append a b))
    ∙ run_append tile 0 a b
    ∙ ap (λ (l : List ℕ). run_from tile 0 a ++ l) (no_length (run_from tile (0 + length a) b) (length_run tile (0 + length a) b ∙ ap length none'))
    ∙ append-nil (run_from tile 0 a)
    ∙ sym (run_there tile a h (omega arith))

of_append : (tile : ℕ) (a b : List TilePartEntry) → of_tile tile (a ++ b) ≡ of_tile tile a ++ of_tile tile b
unfolding of_tile
of_append tile [] b = refl
of_append tile (e ∷ a) b = by_bool (eqb e.tile_index tile) (λ yes. rw (yes, of_append tile a b)) (λ no. rw (no, of_append tile a b))

pub same_parts : (tile : ℕ) (a b : List TilePartEntry) → tile < 65536 → length a + length b ≤ numbered → of_tile tile b ≡ []
    → entries_by (index_of (a ++ b)) tile (a ++ b) ≡ entries_by (index_of a) tile a
same_parts tile a b h few none' =
    run_of_tile tile (a ++ b) h (omega (arith, length-append a b))
    ∙ of_append tile a b
    ∙ ap (λ (l : List TilePartEntry). of_tile tile a ++ l) none'
    ∙ append-nil (of_tile tile a)
    ∙ sym (run_of_tile tile a h (omega arith))

-- ---- runs ascend: of two keys the later one is greater, so tiles ascend, and the entries of a tile

-- each is at least the one before it and 1, and the first at least a number
pub data Ascends : ℕ → List ℕ → Type 0 where
  nothing : {low : ℕ} → Ascends low []
  next : {low k : ℕ} {rest : List ℕ} → low ≤ k → Ascends (k + 1) rest → Ascends low (k ∷ rest)

ascends_from_lem : {low m : ℕ} {keys : List ℕ} → m ≤ low → Ascends low keys → Ascends m keys
ascends_from_lem h nothing = nothing
ascends_from_lem {low} {m} h (next {k = k} l rest) = next {low = m} {k = k} (omega arith) rest

ascends_append : {low high : ℕ} {a b : List ℕ} → low ≤ high → Ascends low a → Each (λ k. k < high) a → Ascends high b → Ascends low (a ++ b)
ascends_append h nothing under above = ascends_from_lem h above
ascends_append h (next {k = k} l rest) (more u under) above = next {k = k} l (ascends_append (omega arith) rest under above)

run_ascends : (tile i : ℕ) (es : List TilePartEntry) → Ascends (key_of tile i) (run_from tile i es)
unfolding run_from
run_ascends tile i [] = nothing
run_ascends tile i (e ∷ rest) =
    let tail = run_ascends tile (i + 1) rest in
    by_test (Ascends (key_of tile i)) (eqb e.tile_index tile) (λ yes. next {low = key_of tile i} {k = key_of tile i} (omega arith) (ascends_from_lem {low = key_of tile (i + 1)} (omega arith) tail)) (λ no. ascends_from_lem {low = key_of tile (i + 1)} (omega arith) tail)

run_under : (tile i : ℕ) (es : List TilePartEntry) → i + length es ≤ numbered → Each (λ k. k < key_of (suc tile) 0) (run_from tile i es)
unfolding run_from
run_under tile i [] few = none
run_under tile i (e ∷ rest) few =
    let tail = run_under tile (i + 1) rest (omega arith) in
    by_test (Each (λ k. k < key_of (suc tile) 0)) (eqb e.tile_index tile) (λ yes. more (omega arith) tail) (λ no. tail)

runs_under : (n i : ℕ) (es : List TilePartEntry) → i + length es ≤ numbered → Each (λ k. k < key_of n 0) (runs_below n i es)
unfolding runs_below
runs_under zero i es few = none
runs_under (suc n) i es few = each_append (each_map (λ k p. omega arith) (runs_under n i es few)) (run_under n i es few)

below_ascends : (n i : ℕ) (es : List TilePartEntry) → i + length es ≤ numbered → Ascends 0 (runs_below n i es)
unfolding runs_below
below_ascends zero i es few = nothing
below_ascends (suc n) i es few =
    ascends_append {high = key_of n 0} (omega arith) (below_ascends n i es few) (runs_under n i es few) (ascends_from_lem {low = key_of n i} {m = key_of n 0} (omega arith) (run_ascends n i es))

pub runs_ascend : (es : List TilePartEntry) → length es ≤ numbered → Ascends 0 (index_of es)
unfolding index_from
runs_ascend es few = below_ascends 65536 0 es (omega arith)

-- ---- every entry stands in the index once, and nothing else does

-- how often a number stands in a list
unfoldable pub times : ℕ → List ℕ → ℕ
times k [] = 0
times k (x ∷ rest) = cond (eqb x k) (times k rest + 1) (times k rest)

times_append : (k : ℕ) (a b : List ℕ) → times k (a ++ b) ≡ times k a + times k b
unfolding times
times_append k [] b = sym (zero-add (times k b))
times_append k (x ∷ a) b =
    by_bool (eqb x k) (λ yes. rw (yes, times_append k a b) (omega arith)) (λ no. rw (no, times_append k a b))

never : (k : ℕ) {keys : List ℕ} → Each (λ x. x ≡ k → ⊥) keys → times k keys ≡ 0
unfolding times
never k none = refl
never k (more {k = x} other rest) = rw (ne_eqb x k other) (never k rest)

-- how often an entry with the tile and the number of a key is in a list: once, or not at all
unfoldable pub standing : ℕ → List TilePartEntry → ℕ
standing k es = length (first_if (tile_of k) (drop (number_of k) es))

ascends_each : {low : ℕ} {keys : List ℕ} → Ascends low keys → Each (λ x. low ≤ x) keys
ascends_each nothing = none
ascends_each {low} (next {k = k} l rest) = more l (each_map (λ x p. omega arith) (ascends_each rest))

-- in the run of its tile
times_run : (tile i j : ℕ) (es : List TilePartEntry) → times (key_of tile (i + j)) (run_from tile i es) ≡ length (first_if tile (drop j es))
unfolding times run_from first_if
times_run tile i j [] = rw (drop-nil j)
times_run tile i zero (e ∷ rest) =
    let key = key_of tile (i + zero) in
    let later = never key (each_map (λ x (p : key_of tile (i + 1) ≤ x) (q : x ≡ key). omega arith) (ascends_each (run_ascends tile (i + 1) rest))) in
    by_bool (eqb e.tile_index tile) (λ yes. rw (yes, eq-eqb (key_of tile i) key (omega arith), later)) (λ no. rw (no, later))
times_run tile i (suc j) (e ∷ rest) =
    let key = key_of tile (i + suc j) in
    let here : key_of tile (i + 1 + j) ≡ key = omega arith in
    let tail : times key (run_from tile (i + 1) rest) ≡ length (first_if tile (drop j rest)) =
    ap (λ (k : ℕ). times k (run_from tile (i + 1) rest)) (sym here) ∙ times_run tile (i + 1) j rest in
    by_bool (eqb e.tile_index tile) (λ yes. rw (yes, ne_eqb (key_of tile i) key (λ q. omega arith)) tail) (λ no. rw no tail)

-- in the runs below a tile
times_none : (k n i : ℕ) (es : List TilePartEntry) → i + length es ≤ numbered → n ≤ tile_of k → times k (runs_below n i es) ≡ 0
times_none k n i es few h = never k (each_map (λ x p q. omega (arith, p, ap tile_of q)) (runs_below_lem n i es few))

times_runs : (k n i : ℕ) (es : List TilePartEntry) → i + length es ≤ numbered → tile_of k < n → times k (runs_below n i es) ≡ times k (run_from (tile_of k) i es)
unfolding runs_below
times_runs k zero i es few h = absurd (omega arith)
times_runs k (suc n) i es few h =
    times_append k (runs_below n i es) (run_from n i es)
    ∙ by_bool (eqb (tile_of k) n)
    (λ yes.
    let here : tile_of k ≡ n = eqb-true (tile_of k) n yes in
    ap₂ (λ (x : ℕ) (t : ℕ). x + times k (run_from t i es)) (times_none k n i es few (omega arith)) (sym here) ∙ zero-add (times k (run_from (tile_of k) i es)))
    (λ no.
    let other : times k (run_from n i es) ≡ 0 =
    never k (each_map (λ x p q. eqb-false (tile_of k) n no (sym (ap tile_of q) ∙ p)) (run_tile n i es few)) in
    let under : tile_of k < n = by_bool (ltb (tile_of k) n) (λ y. ltb-true (tile_of k) n y) (λ z. absurd (eqb-false (tile_of k) n no (omega (arith, ltb-false (tile_of k) n z)))) in
    ap₂ (λ (x y : ℕ). x + y) (times_runs k n i es few under) other ∙ add-zero (times k (run_from (tile_of k) i es)))

-- a tile has 16 bits, as in every table
abbrev pub Small : TilePartEntry → Type 0
Small e = e.tile_index < 65536

none_so_large : (tile j : ℕ) {es : List TilePartEntry} → All Small es → 65536 ≤ tile → first_if tile (drop j es) ≡ []
unfolding first_if
none_so_large tile j all.none h = rw (drop-nil j)
none_so_large tile zero (all.more {e = e} small rest) h = rw (ne_eqb e.tile_index tile (λ q. omega arith))
none_so_large tile (suc j) (all.more small rest) h = none_so_large tile j rest h

pub each_once : (es : List TilePartEntry) → All Small es → length es ≤ numbered → (k : ℕ) → times k (index_of es) ≡ standing k es
unfolding standing index_from
each_once es small few k =
    let itself : key_of (tile_of k) (0 + number_of k) ≡ k = omega arith in
    by_bool (ltb (tile_of k) 65536)
    (λ yes.
    times_runs k 65536 0 es (omega arith) (ltb-true (tile_of k) 65536 yes)
    ∙ ap (λ (x : ℕ). times x (run_from (tile_of k) 0 es)) (sym itself)
    ∙ times_run (tile_of k) 0 (number_of k) es)
    (λ no.
    let large = ltb-false (tile_of k) 65536 no in
    times_none k 65536 0 es (omega arith) large ∙ sym (ap length (none_so_large (tile_of k) (number_of k) small large)))

keys_below : (i : ℕ) {es : List TilePartEntry} → All Small es → i + length es ≤ numbered → Each (Below 65536) (keys_from i es)
unfolding keys_from
keys_below i all.none few = none
keys_below i (all.more {e = e} small rest) few = more {k = key_of e.tile_index i} (omega arith) (keys_below (i + 1) rest (omega arith))

-- as many keys as entries
pub as_many : (es : List TilePartEntry) → All Small es → length es ≤ numbered → length (index_of es) ≡ length es
unfolding index_from
as_many es small few =
    ap length (sym (keys_runs 65536 0 es (omega arith)))
    ∙ groups_all tile_of 65536 (keys_from 0 es) (each_at (keys_below 0 small (omega arith)))
    ∙ length_keys 0 es

first_of : (tile : ℕ) (es : List TilePartEntry) → All (λ e. e.tile_index ≡ tile) (first_if tile es)
unfolding first_if
first_of tile [] = all.none
first_of tile (e ∷ rest) = by_test (All (λ x. x.tile_index ≡ tile)) (eqb e.tile_index tile) (λ yes. all.more (eqb-true e.tile_index tile yes) all.none) (λ no. all.none)

all_append : {P : TilePartEntry → Type 0} {a b : List TilePartEntry} → All P a → All P b → All P (a ++ b)
all_append all.none q = q
all_append (all.more p rest) q = all.more p (all_append rest q)

picked_of : (tile : ℕ) (es : List TilePartEntry) (keys : List ℕ) → All (λ e. e.tile_index ≡ tile) (picked tile es keys)
unfolding picked
picked_of tile es [] = all.none
picked_of tile es (k ∷ keys) = all_append (first_of tile (drop (number_of k) es)) (picked_of tile es keys)

-- ---- whatever is lent as the index, the entries given are the tile's

pub given_of_tile : (index : List ℕ) (tile : ℕ) (es : List TilePartEntry) → All (λ e. e.tile_index ≡ tile) (entries_by index tile es)
unfolding entries_by
given_of_tile index tile es = picked_of tile es (run_in index tile)

-- ---- one entry

other_run : (tile i : ℕ) (e : TilePartEntry) → (e.tile_index ≡ tile → ⊥) → run_from tile i (e ∷ []) ≡ []
unfolding run_from
other_run tile i e n = rw (ne_eqb e.tile_index tile n)

own_run : (i : ℕ) (e : TilePartEntry) → run_from e.tile_index i (e ∷ []) ≡ key_of e.tile_index i ∷ []
unfolding run_from
own_run i e = rw (eq-eqb e.tile_index e.tile_index refl)

none_below : (n i : ℕ) (e : TilePartEntry) → n ≤ e.tile_index → runs_below n i (e ∷ []) ≡ []
unfolding runs_below
none_below zero i e h = refl
none_below (suc n) i e h = ap₂ (λ (a b : List ℕ). a ++ b) (none_below n i e (omega arith)) (other_run n i e (λ q. omega arith))

one_below : (n i : ℕ) (e : TilePartEntry) → e.tile_index < n → runs_below n i (e ∷ []) ≡ key_of e.tile_index i ∷ []
unfolding runs_below
one_below zero i e h = absurd (omega arith)
one_below (suc n) i e h =
    by_bool (eqb e.tile_index n)
    (λ yes.
    let here : e.tile_index ≡ n = eqb-true e.tile_index n yes in
    ap₂ (λ (a b : List ℕ). a ++ b) (none_below n i e (omega arith)) (ap (λ (t : ℕ). run_from t i (e ∷ [])) (sym here) ∙ own_run i e))
    (λ no.
    let other = eqb-false e.tile_index n no in
    let under : e.tile_index < n = by_bool (ltb e.tile_index n) (λ y. ltb-true e.tile_index n y) (λ z. absurd (other (omega (arith, ltb-false e.tile_index n z)))) in
    ap₂ (λ (a b : List ℕ). a ++ b) (one_below n i e under) (other_run n i e other))

pub single : (i : ℕ) (e : TilePartEntry) → Small e → index_from i (e ∷ []) ≡ key_of e.tile_index i ∷ []
unfolding index_from
single i e small = one_below 65536 i e small

-- of a tile that no 16 bits can say there is no key
pub too_large : (i : ℕ) (e : TilePartEntry) → 65536 ≤ e.tile_index → index_from i (e ∷ []) ≡ []
unfolding index_from
too_large i e large = none_below 65536 i e large

-- of two
pub pair : (e f : TilePartEntry) → Small e → Small f → index_of (e ∷ f ∷ []) ≡ merged (key_of e.tile_index 0 ∷ []) (key_of f.tile_index 1 ∷ [])
pair e f small also = sym (extended_afresh (e ∷ []) (f ∷ []) (omega arith)) ∙ ap₂ merged (single 0 e small) (single 1 f also)
