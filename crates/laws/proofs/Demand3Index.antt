-- Demand 3 by the index: a codestream that the header walk accepts has fewer entries than can be numbered, so what the index gives of a tile are the tile's
-- entries, and what is said of these is said of it; over the rows that the scan wrote, too.
use Prim.Native.Nat.{ℕ, ◌+◌, ◌≤◌, ◌<◌}
use native.Mathlib.Omega.{arith}
use mathlib.Core.Path.{◌≡◌, ap, ◌∙◌}
use mathlib.Core.List.{List}
use lib.ListN.{length}
use Rattle.types.specs.Row.{rows_of, records_in}
use Rattle.types.specs.declared.TilePartEntry.{TilePartEntry}
use Rattle.types.proofs.RowReading.{records_back}
use Rattle.header.proofs.ParseLaws.{judged_read}
use Rattle.parts.specs.Scan.{entries_from}
use Rattle.parts.specs.Tiles.{Adjoining, none, more, of_tile}
use Rattle.parts.proofs.TilesAdjoin.{scan_adjoins}
use Rattle.index.specs.Index.{numbered, index_of}
use Rattle.index.specs.Entries.{entries_by}
use Rattle.index.proofs.IndexLaws.{run_of_tile}
use Rattle.laws.specs.Demand3.{Accepted}
use Rattle.laws.specs.ByIndex.{by_index, ByIndex}
use Rattle.laws.proofs.Demand3.{demand_3}
use Rattle.laws.proofs.Demand3Entries.{entries_fit}

-- ---- how many entries there are

-- none is empty
count_from : {limit at to : ℕ} {es : List TilePartEntry} → at ≤ limit → Adjoining limit at es to → at + length es ≤ limit
count_from h none = omega arith
count_from h (more start some inside rest) = let tail = count_from inside rest in omega arith

count : {limit at to : ℕ} {es : List TilePartEntry} → Adjoining limit at es to → length es ≤ limit
count none = omega arith
count (more start some inside rest) = let tail = count_from inside rest in omega arith

pub few : (s : List ℕ) (p : ℕ) → Accepted s p → length (entries_from s p) ≤ numbered
few s p c = omega (arith, count (scan_adjoins s p), (judged_read s c.info c.header).short)

-- ---- what the index gives

pub by_index_lem : (s : List ℕ) (p : ℕ) → Accepted s p → (tile : ℕ) → tile < 65536 → by_index s p tile ≡ of_tile tile (entries_from s p)
by_index_lem s p c tile h = run_of_tile tile (entries_from s p) h (few s p c)

-- over the rows of the scan's table
pub by_rows : (s : List ℕ) (p : ℕ) → Accepted s p → (tile : ℕ) → tile < 65536
    → entries_by (index_of (records_in (rows_of (entries_from s p)))) tile (records_in (rows_of (entries_from s p))) ≡ of_tile tile (entries_from s p)
by_rows s p c tile h =
    ap (λ (es : List TilePartEntry). entries_by (index_of es) tile es) (records_back (entries_fit s p c.bytes (judged_read s c.info c.header).short))
    ∙ by_index_lem s p c tile h

-- ---- the sentences

pub demand_3_by_index : (s : List ℕ) (p : ℕ) → Accepted s p → ByIndex s p
demand_3_by_index s p c =
    let all = demand_3 s p c in
    record {
      split = λ tile h. rw (by_index_lem s p c tile h) (all.split tile);
      assembly = λ rule tile h out. rw (by_index_lem s p c tile h) (all.assembly rule tile out);
    }
