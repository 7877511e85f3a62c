-- The check of a length table (docs/RULES.md, "Length table check"): the entries of the TLM segments in the order of Ztlm, those without an index numbered on,
-- against the entries of the scan. The header is read of the first bytes of the codestream, the tile-parts of all of them.
use Rattle.std.specs.Prelude.{ℕ, zero, suc, ◌+◌, ◌≡◌, Bool, cond, ◌&&◌, List, [], ◌∷◌, map, take, eqb, Option, Some, None, Result, Ok, Err}
use Rattle.types.specs.declared.Refusal.{Refusal}
use Rattle.types.specs.declared.PartNumbers.TheVariants.{NotKnown}
use Rattle.types.specs.declared.TilePartEntry.{TilePartEntry}
use Rattle.header.specs.Tlm.{Entry, total}
use Rattle.header.specs.Walk.{WalkEnd, at_first_sot, refused}
use Rattle.header.specs.Numbering.{entries_by}
use Rattle.header.specs.Parse.{judged}
use Rattle.header.specs.declared.numbering.Numbering.TheVariants.{CarriedOn}
use Rattle.header.specs.declared.parse.MainHeaderInfo.{MainHeaderInfo}
use Rattle.parts.specs.Scan.{ScanEnd, ended, scan_from, entries_from}
use Rattle.parts.specs.Scan as scan
use Rattle.lengths.specs.Segments.{tlms_of, ordered, table_end}
use Rattle.lengths.specs.declared.check.Said.{Said}
use Rattle.lengths.specs.declared.check.Difference.{Difference}

-- the header's length table: the segments' entries in the order of Ztlm, numbered on in that order
unfoldable pub listed : List ℕ → List Entry
listed h = entries_by CarriedOn h 0 (ordered h (tlms_of h))

-- what stands there from the first SOT on: the scan's entries, index and length
abbrev pub pair_of : TilePartEntry → Entry
pair_of e = record { index = e.tile_index; bytes = e.length }

unfoldable pub standing : List ℕ → ℕ → List Entry
standing s at = map pair_of (entries_from s at)

unfoldable pub same : Entry → Entry → Bool
same x y = eqb x.index y.index && eqb x.bytes y.bytes

abbrev pub said : Entry → Said
said e = record { tile = e.index; length = e.bytes }

abbrev pub difference : ℕ → ℕ → Option Said → Option Said → Difference
difference number at x y = record { number = number; offset = record { 0 = at }; listed = x; standing = y }

abbrev pub differing : ℕ → ℕ → Option Said → Option Said → Result (Option Difference) Refusal
differing number at x y = Ok (Some (difference number at x y))

-- the first entry at which two lists differ, counted from a number on; where one list ends and the other does not, that is the next. Before it each tile-part
-- begins where the one before ends.
unfoldable pub compared : ℕ → ℕ → List Entry → List Entry → Result (Option Difference) Refusal
unfolding same
compared number at [] [] = Ok None
compared number at [] (y ∷ ys) = differing number at None (Some (said y))
compared number at (x ∷ xs) [] = differing number at (Some (said x)) None
compared number at (x ∷ xs) (y ∷ ys) = cond (same x y) (compared (number + 1) (at + y.bytes) xs ys) (differing number at (Some (said x)) (Some (said y)))

-- 7 to 9 from the scan, then the comparison
unfoldable pub behind_scan : ScanEnd → Result (Option Difference) Refusal → Result (Option Difference) Refusal
behind_scan ended c = c
behind_scan (scan.refused r) c = Err r

-- 32 and 26, then the scan
unfoldable pub behind_table : List ℕ → List ℕ → ℕ → WalkEnd → Result (Option Difference) Refusal
unfolding behind_scan
behind_table h s at at_first_sot = behind_scan (scan_from s at).ended (compared 0 at (listed h) (standing s at))
behind_table h s at (refused r) = Err r

-- 19, 1 to 6, then the table
unfoldable pub behind_header : List ℕ → List ℕ → Result MainHeaderInfo Refusal → Result (Option Difference) Refusal
unfolding behind_table
behind_header h s (Ok i) = behind_table h s i.first_sot_offset.0 (table_end h)
behind_header h s (Err r) = Err r

-- the check of a codestream whose header is read of its first bytes, as many as the region says
unfoldable pub checked : List ℕ → ℕ → Result (Option Difference) Refusal
checked s region = behind_header (take region s) s (judged (take region s))

-- ---- of which the laws speak

-- the n-th entry of a list, or that there is none
unfoldable pub said_at : ℕ → List Entry → Option Said
said_at n [] = None
said_at zero (e ∷ es) = Some (said e)
said_at (suc n) (e ∷ es) = said_at n es

-- nothing is refused: the header is accepted with its first SOT at p, no Ztlm is used twice and no number passes, and the scan from p is accepted
pub record Compares (s : List ℕ) (region p : ℕ) : Type 0 where
  pub info : MainHeaderInfo
  pub header : judged (take region s) ≡ Ok info
  pub first : info.first_sot_offset.0 ≡ p
  pub table : table_end (take region s) ≡ at_first_sot
  pub scan : (scan_from s p).ended ≡ ended

-- something is, at one of these stages and at none before it
pub data Refuses (s : List ℕ) (region : ℕ) (r : Refusal) : Type 0 where
  by_header : judged (take region s) ≡ Err r → Refuses s region r
  by_table : (info : MainHeaderInfo) → judged (take region s) ≡ Ok info → table_end (take region s) ≡ refused r → Refuses s region r
  by_scan : (info : MainHeaderInfo) → judged (take region s) ≡ Ok info → table_end (take region s) ≡ at_first_sot
      → (scan_from s info.first_sot_offset.0).ended ≡ scan.refused r → Refuses s region r

-- a scan's record as a TLM entry has it: without its numbers
abbrev pub unnumbered : TilePartEntry → TilePartEntry
unnumbered e = record { tile_index = e.tile_index; numbers = NotKnown; offset = e.offset; length = e.length }

-- the first n entries of two lists are the same, and the n-th are not; where they stand if the first stands at a place
pub record DiffersFirst (n at : ℕ) (xs ys : List Entry) (d : Difference) : Type 0 where
  pub alike : take n xs ≡ take n ys
  pub unlike : said_at n xs ≡ said_at n ys → ⊥
  pub listed : d.listed ≡ said_at n xs
  pub standing : d.standing ≡ said_at n ys
  pub offset : d.offset.0 ≡ at + total (take n xs)
