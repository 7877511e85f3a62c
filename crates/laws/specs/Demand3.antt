-- Demand 3, sentence by sentence: the codestream that it takes, what is asked of a tile, and what is said. Each is spelled with the definitions that
-- the functions' contracts cite, so it is said of what the functions answer.
use Rattle.std.specs.Prelude.{ℕ, ◌+◌, ◌≤◌, ◌<◌, ◌≡◌, List, [], ◌∷◌, ◌++◌, map, length, get_or, take, drop, Ok, Err}
use Rattle.numbers.specs.Bytes.{be}
use Rattle.types.specs.Row.{rows_of}
use Rattle.types.specs.declared.Refusal.{Refusal}
use Rattle.types.specs.declared.TilePartEntry.{TilePartEntry}
use Rattle.header.specs.Walk.{walk_from}
use Rattle.header.specs.Strip.{decode_header}
use Rattle.header.specs.Reading.{newer_by}
use Rattle.header.specs.declared.numbering.Numbering.{Numbering}
use Rattle.header.specs.declared.parse.MainHeaderInfo.{MainHeaderInfo}
use Rattle.parts.specs.Sot.{psot}
use Rattle.parts.specs.Scan.{scan_from, entries_from}
use Rattle.parts.specs.Split.{parts_of}
use Rattle.parts.specs.Tiles.{Adjoining, of_tile, bytes_at, joined, AllLong}
use Rattle.tile.specs.Rewrite.{tile_size, rewritten}
use Rattle.tile.specs.Assembly.{parts_in, assembled, assembly_answer, assembly_out}
use Rattle.tile.specs.declared.rules.Rule.{Rule}
use Rattle.header.specs.Parse as parse
use Rattle.parts.specs.Scan as scan

-- ---- "Take a codestream whose header walk accepts with the first SOT at p and whose scan from p accepts."

-- each element is a byte, as in every slice
abbrev pub AllBytes : List ℕ → Type 0
AllBytes s = (i : ℕ) → get_or s i 0 < 256

-- by the walk itself: what either numbering accepts, the walk accepts too (header, `by_accepted`)
pub record Accepted (s : List ℕ) (p : ℕ) : Type 0 where
  pub bytes : AllBytes s
  pub info : MainHeaderInfo
  pub header : parse.judged s ≡ Ok info
  pub first : info.first_sot_offset.0 ≡ p
  pub count : ℕ
  pub scan : scan.judged (scan_from s p) ≡ Ok count

-- ---- "The entries start at p, each begins where the one before ends, and all lie inside the codestream."

abbrev pub EntriesAdjoin : List ℕ → ℕ → Type 0
EntriesAdjoin s p = Adjoining (length s) p (entries_from s p) (scan_from s p).stopped

-- ---- "For any tile whose entries are all 12 bytes or longer, joining them in order and splitting again gives those same parts."

abbrev pub SplitAgain : List ℕ → List TilePartEntry → Type 0
SplitAgain s es = parts_of (joined s es) ≡ map (bytes_at s) es

-- ---- "If that tile has an entry, none has Psot 0, Lsiz is 38 or more, and the SIZ rewrite accepts, then the assembled codestream, given room and
-- at most 2^32-1 bytes long, .."

unfoldable pub NoPsot0 : List ℕ → List TilePartEntry → Type 0
NoPsot0 s [] = Unit {0}
NoPsot0 s (e ∷ rest) = (psot s e.offset.0 ≡ 0 → ⊥) × NoPsot0 s rest

-- the length of the SIZ segment, whose marker stands at 2
abbrev pub lsiz : List ℕ → ℕ
lsiz s = be 2 s 4

-- what the reading of the main header leaves in its output
abbrev pub decode_header_of : List ℕ → List ℕ
decode_header_of s = decode_header s (walk_from s 2).visits

-- what the assembly by a rule makes of the decode header and entries
abbrev pub assembled_of : Rule → List ℕ → List TilePartEntry → List ℕ
assembled_of rule s es = assembled rule (decode_header_of s) (parts_in s es)

-- a tile with these entries, and an output lent to the assembly
pub record Assembles (rule : Rule) (s : List ℕ) (tile : ℕ) (es : List TilePartEntry) (out : List ℕ) : Type 0 where
  pub long : AllLong es
  pub some : es ≡ [] → ⊥
  pub sized : NoPsot0 s es
  pub siz : 38 ≤ lsiz s
  pub accepts : (r : Refusal) → tile_size rule (decode_header_of s) tile ≡ Err r → ⊥
  pub room : length (assembled_of rule s es) ≤ length out
  pub short : length (assembled_of rule s es) ≤ 0xffff_ffff

-- ---- ".. has its first SOT where its header ends, and its scan from there gives the same lengths in order, all under index 0."

-- entries from a position on, each where the one before ends, with the same lengths and numbers in order and index 0
unfoldable pub under_zero : ℕ → List TilePartEntry → List TilePartEntry
under_zero at [] = []
under_zero at (e ∷ rest) = record { tile_index = 0; numbers = e.numbers; offset = record { 0 = at }; length = e.length } ∷ under_zero (at + e.length) rest

-- a codestream with this header and the parts of these entries
pub record Standing (header : List ℕ) (es : List TilePartEntry) (codestream : List ℕ) : Type 0 where
  pub front : take (length header) codestream ≡ header
  pub info : MainHeaderInfo
  pub walk : parse.judged codestream ≡ Ok info
  pub numbered : (n : Numbering) → parse.judged_by n codestream ≡ Ok info
  pub first : info.first_sot_offset.0 ≡ length header
  pub scan : scan.judged (scan_from codestream (length header)) ≡ Ok (length es)
  pub entries : entries_from codestream (length header) ≡ under_zero (length header) es

-- the table lent to the assembly holds the rows of the entries; its output then holds such a codestream
pub record Reassembled (rule : Rule) (s : List ℕ) (tile : ℕ) (es : List TilePartEntry) (out : List ℕ) : Type 0 where
  pub answer : assembly_answer rule (decode_header_of s) (rows_of es) s (length out) ≡ Ok (length (assembled_of rule s es))
  pub output : assembly_out rule (decode_header_of s) (rows_of es) s out ≡ assembled_of rule s es ++ drop (length (assembled_of rule s es)) out
  pub standing : Standing (rewritten rule (decode_header_of s) tile) es (assembled_of rule s es)
  -- where the newer edition accepts the codestream, it accepts this one
  pub newer : (n : Numbering) (h : MainHeaderInfo) → parse.judged_as (newer_by n) s ≡ Ok h
      → parse.judged_as (newer_by n) (assembled_of rule s es) ≡ Ok standing.info

-- ---- all of it, by every rule

pub record Demand3 (s : List ℕ) (p : ℕ) : Type 0 where
  pub adjoin : EntriesAdjoin s p
  pub split : (tile : ℕ) → AllLong (of_tile tile (entries_from s p)) → SplitAgain s (of_tile tile (entries_from s p))
  pub assembly : (rule : Rule) (tile : ℕ) (out : List ℕ) → Assembles rule s tile (of_tile tile (entries_from s p)) out
      → Reassembled rule s tile (of_tile tile (entries_from s p)) out
