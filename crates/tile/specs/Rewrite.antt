-- The SIZ rewrite (docs/RULES.md, "SIZ rewrite"): where a tile is put, and the header, the answer and the output after it.
use Rattle.std.specs.Prelude.{ℕ, ◌+◌, ◌-◌, ◌^◌, ◌≤◌, min, cond, ◌&&◌, List, ◌++◌, length, drop, leb, eqb, Option, Some, None, Result, Ok, Err}
use Rattle.numbers.specs.Bytes.{be, put}
use Rattle.types.specs.Refusals.{refusal}
use Rattle.types.specs.Markers.{SIZ}
use Rattle.types.specs.Siz.{XSIZ, xtsiz, ytsiz}
use Rattle.types.specs.declared.Area.{Area}
use Rattle.tile.specs.Siz.{marker, one_tile}
use Rattle.tile.specs.Rules.{placed_by}
use Rattle.tile.specs.declared.rules.Rule.{Rule}
use Rattle.tile.specs.declared.rules.Rule.TheVariants.{AnnexB, Original, InPlace}
use Rattle.types.specs.declared.Refusal.{Refusal}
use Rattle.types.specs.declared.Reason.TheVariants.{OutputTooSmall}

-- ---- where a tile is put

-- an area of a size from 0 on
abbrev pub from_zero : ℕ → ℕ → Area
from_zero width height = record { x0 = 0; y0 = 0; x1 = width; y1 = height }

-- moved to 0; full size: the header stays
unfoldable pub sized : ℕ → ℕ → ℕ → ℕ → Result (Option Area) Refusal
sized width height xt yt = cond (eqb width xt && eqb height yt) (Ok None) (Ok (Some (from_zero width height)))

-- width and height are where the tile ends less where it starts
unfoldable pub moved : Area → ℕ → ℕ → Result (Option Area) Refusal
unfolding sized
moved a xt yt = sized (a.x1 - a.x0) (a.y1 - a.y0) xt yt

-- a tile is moved to 0 or kept in its place, and there full size is as any other
unfoldable pub cut_by : Rule → Area → ℕ → ℕ → Result (Option Area) Refusal
unfolding moved
cut_by AnnexB a xt yt = moved a xt yt
cut_by Original a xt yt = moved a xt yt
cut_by InPlace a xt yt = Ok (Some a)

unfoldable pub size_of : Rule → Result Area Refusal → ℕ → ℕ → Result (Option Area) Refusal
unfolding cut_by
size_of rule (Ok a) xt yt = cut_by rule a xt yt
size_of rule (Err r) xt yt = Err r

unfoldable pub size_in : Rule → List ℕ → ℕ → Result (Option Area) Refusal
unfolding size_of
size_in rule h tile = size_of rule (placed_by rule h tile) (xtsiz h marker) (ytsiz h marker)

-- a header under 40 bytes, or no SIZ at 2: the header stays
unfoldable pub tile_size : Rule → List ℕ → ℕ → Result (Option Area) Refusal
unfolding size_in
tile_size rule h tile = cond (leb 40 (length h)) (cond (eqb (be 2 h marker) SIZ) (size_in rule h tile) (Ok None)) (Ok None)

-- ---- the header, the answer, the output

-- the header for one tile
unfoldable pub cut_to : Result (Option Area) Refusal → List ℕ → List ℕ
cut_to (Ok None) h = h
cut_to (Ok (Some a)) h = put h (marker + XSIZ) (one_tile a)
cut_to (Err r) h = h

-- ends no sooner than it starts
abbrev pub Ordered : Area → Type 0
Ordered a = (a.x0 ≤ a.x1) × (a.y0 ≤ a.y1)

-- only a header of 40 bytes is cut, and to such an area
unfoldable pub Room : Result (Option Area) Refusal → ℕ → Type 0
Room (Ok None) n = Unit {0}
Room (Ok (Some a)) n = (40 ≤ n) × Ordered a
Room (Err r) n = Unit {0}

-- the header after the rewrite
unfoldable pub rewritten : Rule → List ℕ → ℕ → List ℕ
rewritten rule h tile = cut_to (tile_size rule h tile) h

-- 17 comes last; its place is the size needed, or 2^64-1
unfoldable pub with_room : ℕ → ℕ → Result ℕ Refusal
with_room needed room = cond (leb needed room) (Ok needed) (Err (refusal OutputTooSmall (min needed (2 ^ 64 - 1))))

unfoldable pub judged : Result (Option Area) Refusal → ℕ → ℕ → Result ℕ Refusal
unfolding with_room
judged (Ok None) needed room = with_room needed room
judged (Ok (Some a)) needed room = with_room needed room
judged (Err r) needed room = Err r

-- the output after an answer: the bytes and the rest as it was, or all as it was
unfoldable pub over : Result ℕ Refusal → List ℕ → List ℕ → List ℕ
over (Ok n) bytes out = bytes ++ drop n out
over (Err r) bytes out = out

-- the answer of a rewrite into so much room
unfoldable pub rewrite_answer : Rule → List ℕ → ℕ → ℕ → Result ℕ Refusal
rewrite_answer rule h tile room = judged (tile_size rule h tile) (length h) room

unfoldable pub rewrite_out : Rule → List ℕ → ℕ → List ℕ → List ℕ
rewrite_out rule h tile out = over (rewrite_answer rule h tile (length out)) (rewritten rule h tile) out
