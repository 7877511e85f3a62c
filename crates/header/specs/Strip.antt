-- What the walk has visited: the fillers, the TLM entries, and the decode header, which is the main header without its TLM segments (docs/RULES.md,
-- "Header walk", "TLM" and "Decode header").
use Rattle.std.specs.Prelude.{ℕ, ◌+◌, ◌-◌, Bool, cond, List, [], ◌∷◌, ◌++◌, take, eqb}
use Rattle.numbers.specs.Bytes.{be}
use Rattle.types.specs.Markers.{TLM}
use Rattle.chain.specs.Chain.{Visit, visited}
use Rattle.header.specs.Step.{is_filler}
use Rattle.header.specs.Tlm.{Entry, entry_count, entries_in}

-- how many delimiters with another high byte than FF were passed
unfoldable pub fillers : List ℕ → List Visit → ℕ
unfolding is_filler
fillers s [] = 0
fillers s (v ∷ rest) = cond (is_filler (be 2 s v.at)) 1 0 + fillers s rest

-- a TLM segment was passed. (No delimiter has its low byte.)
abbrev pub is_tlm : List ℕ → Visit → Bool
is_tlm s v = eqb (be 2 s v.at) TLM

-- all that was passed but the TLM segments
unfoldable pub kept : List ℕ → List Visit → List ℕ
kept s [] = []
kept s (v ∷ rest) = cond (is_tlm s v) (kept s rest) (visited s v ++ kept s rest)

-- SOC, and what is kept
unfoldable pub decode_header : List ℕ → List Visit → List ℕ
decode_header s visits = take 2 s ++ kept s visits

-- the lengths of the TLM segments together
unfoldable pub tlm_bytes : List ℕ → List Visit → ℕ
tlm_bytes s [] = 0
tlm_bytes s (v ∷ rest) = cond (is_tlm s v) ((v.next - v.at) + tlm_bytes s rest) (tlm_bytes s rest)

-- the entries of the TLM segments, in the order of the segments
unfoldable pub tlm_entries : List ℕ → List Visit → List Entry
tlm_entries s [] = []
tlm_entries s (v ∷ rest) = cond (is_tlm s v) (entries_in s v.at 0 (entry_count s v.at) ++ tlm_entries s rest) (tlm_entries s rest)
