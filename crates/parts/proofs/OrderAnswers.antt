-- What the answer for a tile says: its numbers are (0, 0 or n), (1, 0 or n), .. and nothing else of the table is looked at.
use Prim.Native.Nat.{ℕ, zero, suc, ◌+◌, ◌≤◌, ◌<◌}
use native.Mathlib.Omega.{arith}
use mathlib.Core.Path.{◌≡◌, refl, sym, ap, ◌∙◌}
use mathlib.Core.Logic.{◌↔◌, ◌⊎◌, inl, inr}
use mathlib.Core.Bool.{Bool, true, false, ◌&&◌, ◌||◌, false≢true}
use mathlib.Core.List.{List, [], ◌∷◌, ◌++◌, map, append-nil}
use lib.ListN.{length, get_or}
use lib.Dec.{eqb}
use borrow.Author.Tests.{eq-eqb, ne_eqb, eqb-true}
use Rattle.numbers.proofs.Choice.{by_test, by_bool}
use Rattle.types.specs.Row.{row_bytes, numbers_at, records_at, records_from, records_in}
use Rattle.types.specs.declared.PartNumbers.{PartNumbers}
use Rattle.types.specs.declared.PartNumbers.TheVariants.{Known, NotKnown}
use Rattle.types.specs.declared.TilePartEntry.{TilePartEntry}
use Rattle.types.proofs.RowReading.{All}
use Rattle.types.proofs.RowReading as all
use Rattle.chain.specs.Chain.{Visit}
use Rattle.parts.specs.Scan.{scan_from, recorded, entries_from}
use Rattle.parts.specs.Tiles.{of_tile}
use Rattle.parts.specs.Order.{numbers_of, numbered_as, run_from, runs, in_order, Counted, none, more}

-- ---- yes exactly where the numbers are counted

pub both : (a b : Bool) → a && b ≡ true → (a ≡ true) × (b ≡ true)
both true b e = (refl, e)
both false b e = absurd (false≢true e)

either : (m n : ℕ) → eqb m 0 || eqb m n ≡ true → (m ≡ 0) ⊎ (m ≡ n)
either m n e = by_bool (eqb m 0) (λ z. inl (eqb-true m 0 z)) (λ z. inr (eqb-true m n (rw z at e)))

or_right : (a : Bool) → a || true ≡ true
or_right true = refl
or_right false = refl

given : (m n : ℕ) → (m ≡ 0) ⊎ (m ≡ n) → eqb m 0 || eqb m n ≡ true
given m n (inl z) = rw (eq-eqb _ _ z)
given m n (inr z) = rw (eq-eqb _ _ z) (or_right (eqb m 0))

run_counted : (n k : ℕ) (ks : List PartNumbers) → run_from n k ks ≡ true → Counted n k ks
unfolding run_from numbered_as
run_counted n k [] e = none
run_counted n k (Known t m ∷ ks) e =
    let this = both (eqb t k && (eqb m 0 || eqb m n)) (run_from n (k + 1) ks) e in
    let due = both (eqb t k) (eqb m 0 || eqb m n) this.0 in
    rw (eqb-true t k due.0) (more (either m n due.1) (run_counted n (k + 1) ks this.1))
run_counted n k (NotKnown ∷ ks) e = absurd (false≢true e)

counted_run : {n k : ℕ} {ks : List PartNumbers} → Counted n k ks → run_from n k ks ≡ true
unfolding run_from numbered_as
counted_run none = refl
counted_run {n} (more {k = k} {m = m} m-is rest) = rw (eq-eqb k k refl, given m n m-is) (counted_run rest)

runs_counted : (ks : List PartNumbers) → runs ks ≡ true → (ks ≡ [] → ⊥) × Counted (length ks) 0 ks
unfolding runs
runs_counted [] e = absurd (false≢true e)
runs_counted (k ∷ ks) e = (λ z. let long = ap length z in omega arith, run_counted _ 0 (k ∷ ks) e)

counted_runs : (ks : List PartNumbers) → (ks ≡ [] → ⊥) × Counted (length ks) 0 ks → runs ks ≡ true
unfolding runs
counted_runs [] c = absurd (c.0 refl)
counted_runs (k ∷ ks) c = counted_run c.1

pub in_order_exactly : (tile : ℕ) (es : List TilePartEntry)
    → in_order tile es ≡ true ↔ (numbers_of tile es ≡ [] → ⊥) × Counted (length (numbers_of tile es)) 0 (numbers_of tile es)
unfolding in_order
in_order_exactly tile es = (runs_counted (numbers_of tile es), counted_runs (numbers_of tile es))

-- ---- of the tile's records alone

-- their numbers decide, whatever the tile is called and wherever its tile-parts lie
pub numbers_decide : (tile tile' : ℕ) (es fs : List TilePartEntry) → numbers_of tile es ≡ numbers_of tile' fs → in_order tile es ≡ in_order tile' fs
unfolding in_order
numbers_decide tile tile' es fs e = ap runs e

pub tile_decides : (tile : ℕ) (es fs : List TilePartEntry) → of_tile tile es ≡ of_tile tile fs → in_order tile es ≡ in_order tile fs
unfolding in_order numbers_of
tile_decides tile es fs e = ap (λ (of : List TilePartEntry). runs (map (λ (x : TilePartEntry). x.numbers) of)) e

-- a tile without an entry
pub none_not : (tile : ℕ) (es : List TilePartEntry) → of_tile tile es ≡ [] → in_order tile es ≡ false
unfolding in_order numbers_of runs
none_not tile es e = ap (λ (of : List TilePartEntry). runs (map (λ (x : TilePartEntry). x.numbers) of)) e

-- ---- with tile-parts of other tiles

Other : ℕ → TilePartEntry → Type 0
Other tile e = e.tile_index ≡ tile → ⊥

others_between : (tile : ℕ) (front : List TilePartEntry) {others : List TilePartEntry} (back : List TilePartEntry) → All (Other tile) others
    → of_tile tile (front ++ (others ++ back)) ≡ of_tile tile (front ++ back)
unfolding of_tile Other
others_between tile [] back all.none = refl
others_between tile [] back (all.more {e = e} o rest) = rw (ne_eqb _ _ o) (others_between tile [] back rest)
others_between tile (e ∷ front) back o = rw (others_between tile front back o)

-- before, between or behind: the answer is the same
pub others_passed : (tile : ℕ) (front : List TilePartEntry) {others : List TilePartEntry} (back : List TilePartEntry) → All (λ e. e.tile_index ≡ tile → ⊥) others
    → in_order tile (front ++ (others ++ back)) ≡ in_order tile (front ++ back)
unfolding Other
others_passed tile front {others} back o = tile_decides tile (front ++ (others ++ back)) (front ++ back) (others_between tile front back o)

pub extended : (tile : ℕ) (es : List TilePartEntry) {others : List TilePartEntry} → All (λ e. e.tile_index ≡ tile → ⊥) others
    → in_order tile (es ++ others) ≡ in_order tile es
extended tile es {others} o =
    ap (λ (l : List TilePartEntry). in_order tile (es ++ l)) (sym (append-nil others)) ∙ others_passed tile es [] o ∙ ap (in_order tile) (append-nil es)

-- ---- more than 256 entries

-- TPsot is a byte
abbrev pub TPsotByte : PartNumbers → Type 0
TPsotByte (Known t m) = t < 256
TPsotByte NotKnown = Unit {0}

data Bytes : List PartNumbers → Type 0 where
  no_bytes : Bytes []
  and_bytes : {p : PartNumbers} {rest : List PartNumbers} → TPsotByte p → Bytes rest → Bytes (p ∷ rest)

of_tile_lem : (tile : ℕ) {es : List TilePartEntry} → All (λ e. TPsotByte e.numbers) es → Bytes (numbers_of tile es)
unfolding numbers_of of_tile
of_tile_lem tile all.none = no_bytes
of_tile_lem tile (all.more {e = e} {rest = rest} b bs) =
    by_bool (eqb e.tile_index tile) (λ t. rw t (and_bytes b (of_tile_lem tile bs))) (λ f. rw f (of_tile_lem tile bs))

few : {n k : ℕ} {ks : List PartNumbers} → Counted n k ks → Bytes ks → 0 < length ks → k + length ks ≤ 256
few none b some = absurd (omega arith)
few (more m-is none) (and_bytes b bs) some = omega arith
few (more m-is (more m-is' rest)) (and_bytes b bs) some = let later = few (more m-is' rest) bs (omega arith) in omega arith

pub many_not : (tile : ℕ) (es : List TilePartEntry) → All (λ e. TPsotByte e.numbers) es → 256 < length (numbers_of tile es) → in_order tile es ≡ false
many_not tile es bytes many =
    by_bool (in_order tile es)
    (λ yes'. let c = (in_order_exactly tile es).0 yes' in absurd (omega (arith, few c.1 (of_tile_lem tile bytes) (omega arith))))
    (λ no'. no')

-- so it is of the records of every scan, and of every table of rows: each element of a slice is a byte
visited_bytes : (s : List ℕ) → ((i : ℕ) → get_or s i 0 < 256) → (visits : List Visit) → All (λ e. TPsotByte e.numbers) (map (recorded s) visits)
visited_bytes s bytes [] = all.none
visited_bytes s bytes (v ∷ visits) = all.more (bytes _) (visited_bytes s bytes visits)

pub scan_many_not : (s : List ℕ) → ((i : ℕ) → get_or s i 0 < 256) → (at tile : ℕ) → 256 < length (numbers_of tile (entries_from s at)) → in_order tile (entries_from s at) ≡ false
unfolding entries_from
scan_many_not s bytes at tile = many_not tile (entries_from s at) (visited_bytes s bytes (scan_from s at).visits)

row_bytes_lem : (n : ℕ) (table : List ℕ) (at : ℕ) → ((i : ℕ) → get_or table i 0 < 256) → All (λ e. TPsotByte e.numbers) (records_at n table at)
unfolding records_at numbers_at
row_bytes_lem zero table at bytes = all.none
row_bytes_lem (suc n) table at bytes =
    all.more (by_test TPsotByte (eqb (get_or table (at + 18) 0) 1) (λ _. bytes (at + 18 + 1)) (λ _. tt)) (row_bytes_lem n table (at + row_bytes) bytes)

pub rows_many_not : (table : List ℕ) → ((i : ℕ) → get_or table i 0 < 256) → (tile : ℕ) → 256 < length (numbers_of tile (records_in table)) → in_order tile (records_in table) ≡ false
unfolding records_in records_from
rows_many_not table bytes tile = many_not tile (records_in table) (row_bytes_lem _ table 0 bytes)
