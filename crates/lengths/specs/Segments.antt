-- The TLM segments of a main header in the order of Ztlm (docs/RULES.md, "Length table check"): those that the walk visits, a Ztlm that is used twice, their
-- order, and numbers that pass. Said of any list of visits, so that it has an answer for any bytes.
use Rattle.std.specs.Prelude.{ℕ, ◌+◌, ◌≤◌, ◌<◌, Bool, false, cond, ◌||◌, List, [], ◌∷◌, leb, eqb}
use Rattle.types.specs.Refusals.{refusal}
use Rattle.chain.specs.Chain.{Visit}
use Rattle.header.specs.Tlm.{ztlm}
use Rattle.header.specs.Walk.{WalkEnd, at_first_sot, refused, walk_from}
use Rattle.header.specs.Strip.{is_tlm}
use Rattle.header.specs.Numbering.{ended_by}
use Rattle.header.specs.declared.numbering.Numbering.TheVariants.{CarriedOn}
use Rattle.types.specs.declared.Reason.TheVariants.{TlmNumberRepeated}

-- the TLM segments among what was visited, in file order
unfoldable pub tlms_in : List ℕ → List Visit → List Visit
tlms_in h [] = []
tlms_in h (v ∷ rest) = cond (is_tlm h v) (v ∷ tlms_in h rest) (tlms_in h rest)

-- those of the main header
abbrev pub tlms_of : List ℕ → List Visit
tlms_of h = tlms_in h (walk_from h 2).visits

unfoldable pub is_in : ℕ → List ℕ → Bool
is_in z [] = false
is_in z (y ∷ more) = eqb z y || is_in z more

-- 32 at the first segment whose Ztlm was used before; these were used so far
unfoldable pub once : List ℕ → List ℕ → List Visit → WalkEnd
unfolding is_in
once h used [] = at_first_sot
once h used (v ∷ rest) = cond (is_in (ztlm h v.at) used) (refused (refusal TlmNumberRepeated v.at)) (once h (ztlm h v.at ∷ used) rest)

-- in the order of Ztlm; those with the same in file order
unfoldable pub insert : List ℕ → Visit → List Visit → List Visit
insert h v [] = v ∷ []
insert h v (u ∷ more) = cond (leb (ztlm h v.at) (ztlm h u.at)) (v ∷ u ∷ more) (u ∷ insert h v more)

unfoldable pub ordered : List ℕ → List Visit → List Visit
unfolding insert
ordered h [] = []
ordered h (v ∷ more) = insert h v (ordered h more)

-- this, and where it does not refuse that
unfoldable pub before : WalkEnd → WalkEnd → WalkEnd
before at_first_sot that = that
before (refused r) that = refused r

-- how the numbers end, in the order of Ztlm: 26 where one passes
abbrev pub numbers_end : List ℕ → WalkEnd
numbers_end h = ended_by CarriedOn h 0 (ordered h (tlms_of h)) at_first_sot

-- what is refused of the table: 32, then 26
unfoldable pub table_end : List ℕ → WalkEnd
unfolding before
table_end h = before (once h [] (tlms_of h)) (numbers_end h)

-- ---- of which the laws speak

-- how often a position stands in a list of visits
unfoldable pub times : ℕ → List Visit → ℕ
times at [] = 0
times at (v ∷ rest) = cond (eqb v.at at) 1 0 + times at rest

-- the numbers of segments, the last one's first, and behind them others
unfoldable pub numbers_of : List ℕ → List Visit → List ℕ → List ℕ
numbers_of h [] used = used
numbers_of h (v ∷ rest) used = numbers_of h rest (ztlm h v.at ∷ used)

-- Ztlm rises from a segment to the next
unfoldable pub Rising : List ℕ → List Visit → Type 0
Rising h [] = Unit {0}
Rising h (v ∷ []) = Unit {0}
Rising h (v ∷ u ∷ rest) = (ztlm h v.at < ztlm h u.at) × Rising h (u ∷ rest)

-- it does not fall
unfoldable pub NotFalling : List ℕ → List Visit → Type 0
NotFalling h [] = Unit {0}
NotFalling h (v ∷ []) = Unit {0}
NotFalling h (v ∷ u ∷ rest) = (ztlm h v.at ≤ ztlm h u.at) × NotFalling h (u ∷ rest)
