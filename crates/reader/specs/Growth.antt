-- How much of a codestream is fetched for its main header (docs/RULES.md, "Growth").
use Rattle.std.specs.Prelude.{ℕ, zero, suc, ◌+◌, ◌*◌, ◌≤◌, ◌<◌, min, Bool, true, false, cond, ◌||◌, List, [], ◌∷◌, ◌++◌, map, length, take, eqb, Option, Some, None}
use Rattle.chain.specs.Chain.{Move, end, on, Visit, Chain, chain}
use Rattle.header.specs.Extent.{extent_of}
use Rattle.reader.specs.declared.growth.Grown.{Grown}
use Rattle.types.specs.declared.CodestreamOffset.{CodestreamOffset}

-- a region, doubled and capped at the length
unfoldable pub next_region : ℕ → ℕ → ℕ
next_region region size = min (2 * region) size

-- the regions of a codestream of a size, each by the number of enlargements that lead to it
unfoldable pub region_at : ℕ → ℕ → ℕ
unfolding next_region
region_at size zero = min 65536 size
region_at size (suc k) = next_region (region_at size k) size

unfoldable pub is_complete : Option CodestreamOffset → Bool
is_complete (Some at) = true
is_complete None = false

-- A region suffices where it is the whole, or its extent is Complete. Either may be asked first: the Rust asks for the whole, which
-- spares it the extent of the last region.
unfoldable pub suffices : List ℕ → ℕ → Bool
unfolding is_complete
suffices s region = eqb region (length s) || is_complete (extent_of (take region s))

-- the chain of enlargements: a step is one more
unfoldable pub move_at : List ℕ → ℕ → Move (Unit {0})
unfolding suffices
move_at s k = cond (suffices s (region_at (length s) k)) (end tt) (on (k + 1))

unfoldable pub growth_from : List ℕ → ℕ → Chain (Unit {0})
growth_from s k = chain tt (move_at s) (length s) k

-- the region and the number of enlargements where a chain stops
unfoldable pub grown_at : List ℕ → Chain (Unit {0}) → Grown
grown_at s c = record { region = region_at (length s) c.stopped; enlargements = c.stopped }

unfoldable pub grown : List ℕ → Grown
unfolding grown_at growth_from
grown s = grown_at s (growth_from s 0)

-- the regions that were tried, in order: those that were enlarged, and the last
unfoldable pub tried : List ℕ → List ℕ
unfolding growth_from
tried s = map (λ (v : Visit). region_at (length s) v.at) (growth_from s 0).visits ++ (region_at (length s) (growth_from s 0).stopped ∷ [])

-- ---- the first region that will do, of which the laws speak

-- the k-th region of a codestream of a size is the first with so many bytes
pub record FirstWith (size bytes k : ℕ) : Type 0 where
  pub has : bytes ≤ region_at size k
  pub none : (j : ℕ) → j < k → region_at size j < bytes
