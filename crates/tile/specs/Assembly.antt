-- Assembly (docs/RULES.md, "Assembly"): the ranges' parts, the tile that chooses the rewrite, and header, parts and EOC joined.
use Rattle.std.specs.Prelude.{ℕ, ◌+◌, Bool, cond, ◌&&◌, List, [], ◌∷◌, ◌++◌, length, take, drop, leb, eqb, Option, Some, None, Result, Ok}
use Rattle.numbers.specs.Bytes.{be, bytes_of, put}
use Rattle.types.specs.Markers.{SOT, EOC}
use Rattle.types.specs.Row.{records_in}
use Rattle.types.specs.declared.TilePartEntry.{TilePartEntry}
use Rattle.tile.specs.Rewrite.{tile_size, cut_to, judged, over}
use Rattle.tile.specs.declared.rules.Rule.{Rule}
use Rattle.types.specs.declared.Area.{Area}
use Rattle.types.specs.declared.Refusal.{Refusal}

-- ---- ranges and parts

-- a range's part; a range whose end passes the codestream's is dropped
unfoldable pub part_of : List ℕ → TilePartEntry → Option (List ℕ)
part_of s e = cond (leb (e.offset.0 + e.length) (length s)) (Some (take e.length (drop e.offset.0 s))) None

unfoldable pub and_part : Option (List ℕ) → List (List ℕ) → List (List ℕ)
and_part (Some part) rest = part ∷ rest
and_part None rest = rest

-- the parts of ranges, an empty one inside too
unfoldable pub parts_in : List ℕ → List TilePartEntry → List (List ℕ)
parts_in s [] = []
parts_in s (e ∷ rest) = and_part (part_of s e) (parts_in s rest)

-- ---- the tile, and Isot

-- 6 bytes, and SOT at the start
unfoldable pub is_sot : List ℕ → Bool
is_sot part = leb 6 (length part) && eqb (be 2 part 0) SOT

-- Isot, at 4, becomes 0
unfoldable pub patched : List ℕ → List ℕ
patched part = cond (is_sot part) (put part 4 (bytes_of 2 0)) part

unfoldable pub part_size : Rule → List ℕ → List ℕ → Result (Option Area) Refusal
part_size rule h part = cond (is_sot part) (tile_size rule h (be 2 part 4)) (Ok None)

-- the first part chooses the rewrite; with no part the header stays
unfoldable pub size_for : Rule → List ℕ → List (List ℕ) → Result (Option Area) Refusal
size_for rule h [] = Ok None
size_for rule h (part ∷ rest) = part_size rule h part

-- ---- header, parts, EOC

unfoldable pub joined : List (List ℕ) → List ℕ
joined [] = []
joined (part ∷ rest) = patched part ++ joined rest

unfoldable pub assembled : Rule → List ℕ → List (List ℕ) → List ℕ
assembled rule h parts = cut_to (size_for rule h parts) h ++ (joined parts ++ bytes_of 2 EOC)

-- the answer of an assembly into so much room: the rewrite's refusal, then 17, else all bytes
unfoldable pub answer_for : Rule → List ℕ → List (List ℕ) → ℕ → Result ℕ Refusal
answer_for rule h parts room = judged (size_for rule h parts) (length (assembled rule h parts)) room

unfoldable pub assembly_answer : Rule → List ℕ → List ℕ → List ℕ → ℕ → Result ℕ Refusal
assembly_answer rule h table s room = answer_for rule h (parts_in s (records_in table)) room

unfoldable pub assembly_out : Rule → List ℕ → List ℕ → List ℕ → List ℕ → List ℕ
assembly_out rule h table s out = over (assembly_answer rule h table s (length out)) (assembled rule h (parts_in s (records_in table))) out
