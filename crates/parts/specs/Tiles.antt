-- What is said of scan and split together: entries that adjoin, and the parts of one tile, joined.
use Rattle.std.specs.Prelude.{ℕ, ◌+◌, ◌≤◌, ◌<◌, ◌≡◌, cond, List, [], ◌∷◌, ◌++◌, take, drop, eqb}
use Rattle.types.specs.declared.TilePartEntry.{TilePartEntry}

-- entries of which none is empty, from a position on to another: the first starts there, each next where the one before ends, and all lie
-- below the limit; where there is none the two positions are one
pub data Adjoining (limit : ℕ) : ℕ → List TilePartEntry → ℕ → Type 0 where
  none : {at : ℕ} → Adjoining limit at [] at
  more : {at to : ℕ} {e : TilePartEntry} {rest : List TilePartEntry} → e.offset.0 ≡ at → 0 < e.length → at + e.length ≤ limit
      → Adjoining limit (at + e.length) rest to → Adjoining limit at (e ∷ rest) to

-- the entries of a tile, in order
unfoldable pub of_tile : ℕ → List TilePartEntry → List TilePartEntry
of_tile t [] = []
of_tile t (e ∷ rest) = cond (eqb e.tile_index t) (e ∷ of_tile t rest) (of_tile t rest)

-- the bytes of an entry
unfoldable pub bytes_at : List ℕ → TilePartEntry → List ℕ
bytes_at s e = take e.length (drop e.offset.0 s)

-- the bytes of entries, one after the other
unfoldable pub joined : List ℕ → List TilePartEntry → List ℕ
unfolding bytes_at
joined s [] = []
joined s (e ∷ rest) = bytes_at s e ++ joined s rest

-- every entry has a whole SOT marker segment's 12 bytes
unfoldable pub AllLong : List TilePartEntry → Type 0
AllLong [] = Unit {0}
AllLong (e ∷ rest) = (12 ≤ e.length) × AllLong rest
