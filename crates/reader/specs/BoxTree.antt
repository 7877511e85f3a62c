-- What the rows of a listing say, without the file: boxes that adjoin and fill an extent, in file order, each once; a superbox is followed by the list that fills its content.
-- And which of them holds the codestream.
use Rattle.std.specs.Prelude.{ℕ, ◌+◌, ◌-◌, ◌≤◌, ◌<◌, true, cond, ◌&&◌, ◌≡◌, List, [], ◌∷◌, ◌++◌, eqb, Result, Ok, Err}
use Rattle.types.specs.Refusals.{refusal}
use Rattle.reader.specs.Search.{JP2C, box_at, codestream}
use Rattle.reader.specs.BoxRow.{end_of}
use Rattle.reader.specs.BoxStep.{deepest, opens}
use Rattle.reader.specs.declared.box_row.BoxEntry.{BoxEntry}
use Rattle.reader.specs.declared.search.Codestream.{Codestream}
use Rattle.types.specs.declared.Refusal.{Refusal}
use Rattle.types.specs.declared.Reason.TheVariants as reason

-- a list at a depth, from a position to another
pub data Fills : ℕ → ℕ → ℕ → List BoxEntry → Type 0 where
  none : {depth at : ℕ} → Fills depth at at []
  plain : {depth at to : ℕ} {e : BoxEntry} {rest : List BoxEntry} → e.depth ≡ depth → e.start.0 ≡ at → at + 8 ≤ e.content.0
      → (opens e.kind ≡ true → e.length ≡ 0)
      → Fills depth (end_of e) to rest → Fills depth at to (e ∷ rest)
  superbox : {depth at to : ℕ} {e : BoxEntry} {held rest : List BoxEntry} → e.depth ≡ depth → e.start.0 ≡ at → at + 8 ≤ e.content.0
      → opens e.kind ≡ true → depth < deepest
      → Fills (depth + 1) e.content.0 (end_of e) held
      → Fills depth (end_of e) to rest → Fills depth at to (e ∷ (held ++ rest))

-- each starts behind the one before
unfoldable pub RisingFrom : ℕ → List BoxEntry → Type 0
RisingFrom at [] = Unit {0}
RisingFrom at (e ∷ rest) = (at ≤ e.start.0) × RisingFrom (e.start.0 + 1) rest

-- each is the box that stands in the file where it starts
unfoldable pub Own : List ℕ → List BoxEntry → Type 0
unfolding box_at
Own s [] = Unit {0}
Own s (e ∷ rest) =
    (box_at s e.start.0 ≡ Ok (record { kind = e.kind; header = e.content.0 - e.start.0; length = end_of e - e.start.0 })) × Own s rest

-- the content of the first jp2c box at the top, of a file of a size
unfoldable pub first_codestream : ℕ → List BoxEntry → Result Codestream Refusal
first_codestream size [] = Err (refusal reason.NoCodestreamBox size)
first_codestream size (e ∷ rest) = cond (eqb e.depth 1 && eqb e.kind JP2C) (Ok (codestream e.content e.length)) (first_codestream size rest)

-- none of them is one
unfoldable pub NoCodestream : List BoxEntry → Type 0
NoCodestream [] = Unit {0}
NoCodestream (e ∷ rest) = (e.depth ≡ 1 → e.kind ≡ JP2C → ⊥) × NoCodestream rest
