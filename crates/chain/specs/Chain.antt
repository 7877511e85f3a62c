-- A chain of steps. From a position a step ends with an answer or moves on to a later position; the chain is all that is visited on the
-- way. Header walk, extent, decode header, TLM entries, scan, split, SIZ reading and box chain are chains, each with a step of its own.
use Rattle.std.specs.Prelude.{ℕ, zero, suc, ◌-◌, ◌<◌, ◌≡◌, List, [], ◌∷◌, take, drop}

-- what a step finds at a position: the end, with an answer, or the position to go on from
pub data Move (A : Type 0) : Type 0 where
  end : A → Move A
  on : ℕ → Move A

-- a step that moved on: from where, to where
pub record Visit : Type 0 where
  pub at : ℕ
  pub next : ℕ

-- the bytes of what was passed
abbrev pub visited : List ℕ → Visit → List ℕ
visited s v = take (v.next - v.at) (drop v.at s)

-- a chain: the steps that moved on, in order; the position where it ended; the answer there
pub record Chain (A : Type 0) : Type 0 where
  pub visits : List Visit
  pub stopped : ℕ
  pub ended : A

unfoldable pub also : {A : Type 0} → Visit → Chain A → Chain A
also v c = record { visits = v ∷ c.visits; stopped = c.stopped; ended = c.ended }

unfoldable pub on_move : {A : Type 0} → Move A → ℕ → (ℕ → Chain A) → Chain A
unfolding also
on_move (end a) at rest = record { visits = []; stopped = at; ended = a }
on_move (on next) at rest = also (record { at = at; next = next }) (rest next)

-- at most count steps; short is the answer where they are too few
unfoldable pub counted : {A : Type 0} → A → (ℕ → Move A) → ℕ → ℕ → Chain A
unfolding on_move
counted short move zero at = record { visits = []; stopped = at; ended = short }
counted short move (suc count) at = on_move (move at) at (counted short move count)

-- a step that moves on does so from below the limit, and forward
abbrev pub Rises : {A : Type 0} → (ℕ → Move A) → ℕ → Type 0
Rises move limit = (at next : ℕ) → move at ≡ on next → (at < next) × (at < limit)

-- The chain from a position. Where the step rises below the limit, the count is never used up (`chain_end` and `chain_on` are all that is
-- ever used of this definition), and short is never the answer.
unfoldable pub chain : {A : Type 0} → A → (ℕ → Move A) → ℕ → ℕ → Chain A
unfolding counted
chain short move limit at = counted short move (suc limit) at

-- the steps that a chain takes from a position to another, one after the other
pub data Run {A : Type 0} (move : ℕ → Move A) : ℕ → List Visit → ℕ → Type 0 where
  stay : {at : ℕ} → Run move at [] at
  step : {at next stop : ℕ} {rest : List Visit} → move at ≡ on next → at < next → Run move next rest stop
      → Run move at (record { at = at; next = next } ∷ rest) stop
