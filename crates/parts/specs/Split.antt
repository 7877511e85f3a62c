-- One tile's buffer taken apart (docs/RULES.md, "Split"): the chain of its steps, and the parts.
use Rattle.std.specs.Prelude.{ℕ, ◌+◌, ◌-◌, cond, List, [], map, length, take, drop, leb, eqb, Option, Some, None}
use Rattle.numbers.specs.Bytes.{be, put}
use Rattle.types.specs.Markers.{SOT}
use Rattle.chain.specs.Chain.{Move, end, on, visited, Chain, chain}
use Rattle.parts.specs.Sot.{psot}

-- Psot 0 or past the end makes the rest one part; otherwise Psot bytes
unfoldable pub part_end : List ℕ → ℕ → ℕ
part_end s at = cond (eqb (psot s at) 0) (length s) (cond (leb (at + psot s at) (length s)) (at + psot s at) (length s))

-- a part where 12 bytes remain and SOT stands there; Lsot is not tested
unfoldable pub split_step_at : List ℕ → ℕ → Option ℕ
unfolding part_end
split_step_at s at = cond (leb (at + 12) (length s)) (cond (eqb (be 2 s at) SOT) (Some (part_end s at)) None) None

pub data SplitEnd : Type 0 where
  ended : SplitEnd

unfoldable pub move_of : Option ℕ → Move SplitEnd
move_of (Some next) = on next
move_of None = end ended

unfoldable pub move_at : List ℕ → ℕ → Move SplitEnd
move_at s at = move_of (split_step_at s at)

unfoldable pub split_from : List ℕ → ℕ → Chain SplitEnd
split_from s at = chain ended (move_at s) (length s) at

-- the bytes of each part from a position on
unfoldable pub parts_from : List ℕ → ℕ → List (List ℕ)
parts_from s at = map (visited s) (split_from s at).visits

-- the parts of a buffer; what is left over is dropped
unfoldable pub parts_of : List ℕ → List (List ℕ)
unfolding parts_from
parts_of s = parts_from s 0

-- the bytes of the part that a step at a position finds; none where it ends
unfoldable pub found : List ℕ → ℕ → Option ℕ → List ℕ
found s at (Some next) = take (next - at) (drop at s)
found s at None = []

unfoldable pub standing : List ℕ → ℕ → List ℕ
unfolding found
standing s at = found s at (split_step_at s at)

-- a part of the caller's bytes for C: 17 where it is longer than the room, and what it leaves in the output
abbrev pub part_number : List ℕ → ℕ → ℕ
part_number part room = cond (leb (length part) room) 0 17

abbrev pub part_out : List ℕ → List ℕ → List ℕ
part_out part out = cond (leb (length part) (length out)) (put out 0 part) out
