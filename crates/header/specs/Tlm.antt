-- The TLM segment (docs/RULES.md, "TLM"): its fields by the position of its marker, what is refused, its entries, and the records of entries.
use Rattle.std.specs.Prelude.{ℕ, zero, suc, ◌+◌, ◌-◌, ◌*◌, ◌/◌, ◌%◌, ◌≤◌, ◌<◌, cond, List, [], ◌∷◌, length, get_or, leb, eqb, Result, Ok, Err}
use Rattle.numbers.specs.Bytes.{be}
use Rattle.types.specs.Refusals.{refusal}
use Rattle.types.specs.declared.PartNumbers.TheVariants.{NotKnown}
use Rattle.types.specs.declared.TilePartEntry.{TilePartEntry}
use Rattle.header.specs.Step.{segment_end}
use Rattle.types.specs.declared.Refusal.{Refusal}
use Rattle.types.specs.declared.Reason.TheVariants.{TlmTooShort, TlmFormUnknown}

abbrev pub ltlm : List ℕ → ℕ → ℕ
ltlm s at = be 2 s (at + 2)

-- Ztlm, a segment's number among the segments: the reading of the header does not look at it
abbrev pub ztlm : List ℕ → ℕ → ℕ
ztlm s at = get_or s (at + 4) 0

abbrev pub stlm : List ℕ → ℕ → ℕ
stlm s at = get_or s (at + 5) 0

-- ST, bits 5 and 4 of Stlm: how many bytes an entry's index has, 0, 1 or 2
abbrev pub index_size : ℕ → ℕ
index_size stlm = stlm / 16 % 4

-- SP, bit 6: an entry's length has 2 bytes, or 4
abbrev pub length_size : ℕ → ℕ
length_size stlm = 2 + stlm / 64 % 2 * 2

abbrev pub entry_size : ℕ → ℕ
entry_size stlm = index_size stlm + length_size stlm

-- the whole entries of a segment; a partial one at the end is ignored
unfoldable pub entry_count : List ℕ → ℕ → ℕ
entry_count s at = (ltlm s at - 4) / entry_size (stlm s at)

-- 4, then 5, otherwise the segment's whole entries
unfoldable pub tlm_at : List ℕ → ℕ → Result ℕ Refusal
tlm_at s at =
    cond (leb 4 (ltlm s at)) (cond (eqb (index_size (stlm s at)) 3) (Err (refusal TlmFormUnknown at)) (Ok (entry_count s at)))
    (Err (refusal TlmTooShort at))

-- a segment lies inside, from its marker on
pub record Within (s : List ℕ) (at : ℕ) : Type 0 where
  pub marked : at + 4 ≤ length s
  pub ends : segment_end s at ≤ length s

-- a TLM segment that is not refused
pub record Accepted (s : List ℕ) (at : ℕ) : Type 0 where
  pub ends : segment_end s at ≤ length s
  pub long : 4 ≤ ltlm s at
  pub known : index_size (stlm s at) < 3

-- an entry: a tile's index and a tile-part's length
pub record Entry : Type 0 where
  pub index : ℕ
  pub bytes : ℕ

-- where the i-th entry stands
abbrev pub entry_place : List ℕ → ℕ → ℕ → ℕ
entry_place s at i = at + 6 + i * entry_size (stlm s at)

-- the i-th entry; with ST 0 its index is i, counted from 0 in each segment
unfoldable pub entry_in : List ℕ → ℕ → ℕ → Entry
entry_in s at i =
    record {
      index = cond (eqb (index_size (stlm s at)) 0) i (be (index_size (stlm s at)) s (entry_place s at i));
      bytes = be (length_size (stlm s at)) s (entry_place s at i + index_size (stlm s at));
    }

-- n entries from the i-th on
unfoldable pub entries_in : List ℕ → ℕ → ℕ → ℕ → List Entry
unfolding entry_in
entries_in s at i zero = []
entries_in s at i (suc n) = entry_in s at i ∷ entries_in s at (i + 1) n

-- how many of a segment's entries have no index: all of them, or none
unfoldable pub unindexed : List ℕ → ℕ → ℕ
unindexed s at = cond (eqb (index_size (stlm s at)) 0) (entry_count s at) 0

-- the i-th entry of a segment whose entries are numbered from k on: without an index it has its number, and an index that is read stays what is read
unfoldable pub entry_on : List ℕ → ℕ → ℕ → ℕ → Entry
unfolding entry_in
entry_on s at k i = record { index = cond (eqb (index_size (stlm s at)) 0) (k + i) (entry_in s at i).index; bytes = (entry_in s at i).bytes }

-- n of these from the i-th on
unfoldable pub entries_on : List ℕ → ℕ → ℕ → ℕ → ℕ → List Entry
unfolding entry_on
entries_on s at k i zero = []
entries_on s at k i (suc n) = entry_on s at k i ∷ entries_on s at k (i + 1) n

-- an entry's record, whose tile-part starts at a place
abbrev pub record_of : ℕ → Entry → TilePartEntry
record_of from e = record { tile_index = e.index; numbers = NotKnown; offset = record { 0 = from }; length = e.bytes }

-- entries as records: the first starts at a place, each next where the one before ends
unfoldable pub placed : ℕ → List Entry → List TilePartEntry
placed from [] = []
placed from (e ∷ rest) = record_of from e ∷ placed (from + e.bytes) rest

-- how many bytes the entries' tile-parts have together
unfoldable pub total : List Entry → ℕ
total [] = 0
total (e ∷ rest) = e.bytes + total rest
