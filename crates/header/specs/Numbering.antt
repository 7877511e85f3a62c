-- How the TLM entries without an index are numbered (docs/RULES.md, "TLM"): on over the segments, or from 0 in each. Said of the positions that the walk
-- visits, so that it has an answer for any bytes.
use Rattle.std.specs.Prelude.{ℕ, ◌+◌, cond, List, [], ◌∷◌, ◌++◌, leb, eqb}
use Rattle.types.specs.Refusals.{refusal}
use Rattle.chain.specs.Chain.{Visit}
use Rattle.header.specs.Tlm.{Entry, entry_count, unindexed, entries_on}
use Rattle.header.specs.Walk.{WalkEnd, refused}
use Rattle.header.specs.Strip.{is_tlm}
use Rattle.header.specs.declared.numbering.Numbering.{Numbering}
use Rattle.header.specs.declared.numbering.Numbering.TheVariants.{CarriedOn, Restarting}
use Rattle.types.specs.declared.Reason.TheVariants.{TlmTooManyEntries}

-- as C gives it: 0 carries on, 1 restarts, and any other number means the default, which is 0
unfoldable pub numbering_of : ℕ → Numbering
numbering_of number = cond (eqb number 1) Restarting CarriedOn

-- the number from which the next segment's entries are numbered, where this one's are numbered from k on
unfoldable pub next_number : Numbering → List ℕ → ℕ → ℕ → ℕ
next_number CarriedOn s at k = k + unindexed s at
next_number Restarting s at k = 0

-- the entries of the TLM segments, in the order of the segments; the first one's are numbered from k on
unfoldable pub entries_by : Numbering → List ℕ → ℕ → List Visit → List Entry
unfolding next_number
entries_by n s k [] = []
entries_by n s k (v ∷ rest) =
    cond (is_tlm s v) (entries_on s v.at k 0 (entry_count s v.at) ++ entries_by n s (next_number n s v.at k) rest) (entries_by n s k rest)

-- how the walk ends: 26 at the first segment whose last number would pass 65,534, so that the next would pass 65,535; otherwise as it does
unfoldable pub ended_by : Numbering → List ℕ → ℕ → List Visit → WalkEnd → WalkEnd
unfolding next_number
ended_by n s k [] ended = ended
ended_by n s k (v ∷ rest) ended =
    cond (is_tlm s v)
    (cond (leb (next_number n s v.at k) 65_535) (ended_by n s (next_number n s v.at k) rest ended) (refused (refusal TlmTooManyEntries v.at)))
    (ended_by n s k rest ended)

-- ---- counts, of which the laws speak

-- how many entries without an index there are
unfoldable pub unindexed_in : List ℕ → List Visit → ℕ
unindexed_in s [] = 0
unindexed_in s (v ∷ rest) = cond (is_tlm s v) (unindexed s v.at) 0 + unindexed_in s rest

-- how many segments have such entries
unfoldable pub unindexed_segments : List ℕ → List Visit → ℕ
unindexed_segments s [] = 0
unindexed_segments s (v ∷ rest) = cond (is_tlm s v) (cond (leb 1 (unindexed s v.at)) 1 0) 0 + unindexed_segments s rest
