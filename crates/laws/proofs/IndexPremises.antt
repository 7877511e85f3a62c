-- The premises of the laws of the index by tile: each is needed, by a smallest input without it, and is met by something real.
use Prim.Native.Nat.{ℕ}
use native.Mathlib.Omega.{arith}
use mathlib.Core.Path.{◌≡◌, refl, sym, ap, ◌∙◌}
use mathlib.Core.List.{List, [], ◌∷◌, ◌++◌}
use Rattle.std.specs.Prelude.{Ok}
use Rattle.types.specs.declared.PartNumbers.TheVariants.{Known}
use Rattle.types.specs.declared.TilePartEntry.{TilePartEntry}
use Rattle.types.proofs.RowReading.{All, none, more}
use Rattle.parts.specs.Scan.{entries_from}
use Rattle.parts.specs.Tiles.{of_tile}
use Rattle.index.specs.Index.{numbered, key_of, index_of}
use Rattle.index.specs.Merge.{merged}
use Rattle.index.specs.Run.{run_in}
use Rattle.index.specs.Extend.{index_after, index_made}
use Rattle.index.specs.Entries.{picked, entries_by}
use Rattle.index.proofs.Lookup.{run_nothing, run_there}
use Rattle.index.proofs.IndexLaws.{absent_empty, call_afresh, same_run, same_parts, Ascends, runs_ascend, times, standing, Small, each_once, single, too_large, pair}
use Rattle.tile.specs.declared.rules.Rule.{Rule}
use Rattle.laws.specs.Demand3.{Reassembled}
use Rattle.laws.specs.ByIndex.{by_index}
use Rattle.laws.specs.Sample.{zeros, A}
use Rattle.laws.proofs.SampleComputing.{scan_runs, indexes}
use Rattle.laws.proofs.SampleEdges.{A-scan}
use Rattle.laws.proofs.Demand3Index.{few, by_index_lem, demand_3_by_index}
use Rattle.laws.proofs.Demand3Premises.{A-accepted, A-assembles}

abbrev entry : ℕ → ℕ → ℕ → TilePartEntry
entry index offset long = record { tile_index = index; numbers = Known 0 1; offset = record { 0 = offset }; length = long }

-- ---- `run_of_tile` and its kin: the tile has 16 bits. So has every tile that can be asked for.

abbrev wide : List TilePartEntry
wide = entry 65_536 0 12 ∷ []

pub wide_there : of_tile 65_536 wide ≡ wide
unfolding scan_runs
wide_there = refl

pub wide_not_given : entries_by (index_of wide) 65_536 wide ≡ []
unfolding picked entries_by
wide_not_given = ap (picked 65_536 wide) (ap (λ (l : List ℕ). run_in l 65_536) (too_large 0 (entry 65_536 0 12) (omega arith)) ∙ run_nothing 65_536)

-- ---- the laws of all entries: a tile has 16 bits, and there are 2^48 entries or fewer. So it is in every table of rows; and in every scan that demand 3 takes, `few`.

pub wide_not_once : times (key_of 65_536 0) (index_of wide) ≡ 0
unfolding times
wide_not_once = ap (times (key_of 65_536 0)) (too_large 0 (entry 65_536 0 12) (omega arith))

pub wide_stands : standing (key_of 65_536 0) wide ≡ 1
unfolding standing indexes
wide_stands = refl

-- the entry with the number 2^48 of one tile would be the first one of the next
pub number_too_wide : key_of 0 numbered ≡ key_of 1 0
number_too_wide = refl

-- ---- `call_afresh`: what is lent is the index of the old entries

abbrev both : List TilePartEntry
both = entry 0 0 12 ∷ entry 1 12 12 ∷ []

pub stale : index_after (Ok 2) both 1 (key_of 1 0 ∷ 9 ∷ []) ≡ key_of 1 0 ∷ key_of 1 1 ∷ []
unfolding indexes
stale = ap (λ (l : List ℕ). merged (key_of 1 0 ∷ []) l ++ []) (single 1 (entry 1 12 12) (omega arith))

pub made : index_made (Ok 2) both (key_of 1 0 ∷ 9 ∷ []) ≡ key_of 0 0 ∷ key_of 1 1 ∷ []
unfolding index_made indexes
made = ap (λ (l : List ℕ). l ++ []) (pair (entry 0 0 12) (entry 1 12 12) (omega arith) (omega arith))

-- ---- `same_run`, `same_parts`: the tile gained nothing

pub gained : run_in (index_of ([] ++ (entry 7 0 12 ∷ []))) 7 ≡ key_of 7 0 ∷ []
unfolding indexes
gained = run_there 7 (entry 7 0 12 ∷ []) (omega arith) (omega arith)

pub before : run_in (index_of []) 7 ≡ []
unfolding indexes
before = run_there 7 [] (omega arith) (omega arith)

-- ---- sample A meets them

A-entries : entries_from A 57 ≡ entry 0 57 14 ∷ entry 5 71 16 ∷ []
A-entries = A-scan

pub A-small : All Small (entries_from A 57)
A-small = rw A-entries (more {e = entry 0 57 14} (omega arith) (more {e = entry 5 71 16} (omega arith) none))

pub A-ascends : Ascends 0 (index_of (entries_from A 57))
A-ascends = runs_ascend (entries_from A 57) (few A 57 A-accepted)

pub A-once : (k : ℕ) → times k (index_of (entries_from A 57)) ≡ standing k (entries_from A 57)
A-once = each_once (entries_from A 57) A-small (few A 57 A-accepted)

-- tile 1 is not there
pub A-absent : run_in (index_of (entries_from A 57)) 1 ≡ []
unfolding scan_runs
A-absent = absent_empty 1 (entries_from A 57) (omega arith) (few A 57 A-accepted) refl

-- tile 5 arrives behind tile 0: a call, and tile 0 before and after it
pub A-extended : index_after (Ok 2) (entry 0 57 14 ∷ entry 5 71 16 ∷ []) 1 (key_of 0 0 ∷ 9 ∷ []) ≡ index_made (Ok 2) (entry 0 57 14 ∷ entry 5 71 16 ∷ []) (key_of 0 0 ∷ 9 ∷ [])
A-extended = call_afresh (Ok 2) (entry 0 57 14 ∷ entry 5 71 16 ∷ []) 1 (key_of 0 0 ∷ 9 ∷ []) (omega arith) (omega arith) (sym (single 0 (entry 0 57 14) (omega arith)))

pub A-same-run : run_in (index_of ((entry 0 57 14 ∷ []) ++ (entry 5 71 16 ∷ []))) 0 ≡ run_in (index_of (entry 0 57 14 ∷ [])) 0
unfolding scan_runs
A-same-run = same_run 0 (entry 0 57 14 ∷ []) (entry 5 71 16 ∷ []) (omega arith) (omega arith) refl

pub A-same-parts : entries_by (index_of ((entry 0 57 14 ∷ []) ++ (entry 5 71 16 ∷ []))) 0 ((entry 0 57 14 ∷ []) ++ (entry 5 71 16 ∷ [])) ≡ entries_by (index_of (entry 0 57 14 ∷ [])) 0 (entry 0 57 14 ∷ [])
unfolding scan_runs
A-same-parts = same_parts 0 (entry 0 57 14 ∷ []) (entry 5 71 16 ∷ []) (omega arith) (omega arith) refl

-- its tile 5 by the index, assembled
pub A-reassembled : (rule : Rule) → Reassembled rule A 5 (by_index A 57 5) (zeros 63)
A-reassembled rule = (demand_3_by_index A 57 A-accepted).assembly rule 5 (omega arith) (zeros 63) (rw (by_index_lem A 57 A-accepted 5 (omega arith)) (A-assembles rule))
