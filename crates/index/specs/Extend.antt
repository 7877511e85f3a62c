-- The making of the index and its extension (docs/RULES.md, "An index by tile"): the answer, and what the lent index and the lent scratch hold behind it.
use Rattle.std.specs.Prelude.{ℕ, ◌+◌, ◌-◌, Bool, cond, ◌&&◌, List, [], ◌∷◌, ◌++◌, take, drop, leb, Result, Ok, Err}
use Rattle.types.specs.Refusals.{refusal}
use Rattle.types.specs.declared.TilePartEntry.{TilePartEntry}
use Rattle.index.specs.Index.{numbered, key_of, index_from, index_of}
use Rattle.index.specs.Merge.{merged}
use Rattle.types.specs.declared.Refusal.{Refusal}
use Rattle.types.specs.declared.Reason.TheVariants.{TableTooSmall}

-- how many of n entries are old: as many as the index is said to have; where that is more than there are, it is of another table, and none is
abbrev pub old_of : ℕ → ℕ → ℕ
old_of have n = cond (leb have n) have 0

-- n entries can be numbered, the index has room for them, and the scratch for those that are not old
unfoldable pub fits : ℕ → ℕ → ℕ → ℕ → Bool
fits n have room scratch = leb n numbered && (leb n room && leb (n - old_of have n) scratch)

-- the answer for n entries; where it is refused, so many are needed
unfoldable pub extended : ℕ → ℕ → ℕ → ℕ → Result ℕ Refusal
unfolding fits
extended n have room scratch = cond (fits n have room scratch) (Ok n) (Err (refusal TableTooSmall n))

-- the old keys, whatever they are, merged with the index of the entries that are not old; and behind it what stood there
unfoldable pub index_after : Result ℕ Refusal → List TilePartEntry → ℕ → List ℕ → List ℕ
index_after (Ok n) es old index = merged (take old index) (index_from old (drop old es)) ++ drop n index
index_after (Err r) es old index = index

-- the index of the entries that are not old; and behind it what stood there
unfoldable pub scratch_after : Result ℕ Refusal → List TilePartEntry → ℕ → List ℕ → List ℕ
scratch_after (Ok n) es old scratch = index_from old (drop old es) ++ drop (n - old) scratch
scratch_after (Err r) es old scratch = scratch

-- made afresh: the index of the entries, in the lent index and in the lent scratch; and behind it what stood there
unfoldable pub index_made : Result ℕ Refusal → List TilePartEntry → List ℕ → List ℕ
index_made (Ok n) es lent = index_of es ++ drop n lent
index_made (Err r) es lent = lent

-- the keys of entries, numbered from i on, as they stand in the table
unfoldable pub keys_from : ℕ → List TilePartEntry → List ℕ
keys_from i [] = []
keys_from i (e ∷ rest) = key_of e.tile_index i ∷ keys_from (i + 1) rest
