-- What it means that a part of a codestream is read as the whole: every reading of it, into rows or into records and with any room, answers as of the whole
-- and leaves in the table and in the output what it leaves of the whole; and each marker is found in it where it is found in the whole.
use Rattle.std.specs.Prelude.{ℕ, ◌≡◌, List}
use Rattle.types.specs.declared.TilePartEntry.{TilePartEntry}
use Rattle.header.specs.Parse.{parsed, table_after, out_after}
use Rattle.header.specs.Find.{finding}
use Rattle.header.specs.declared.reading.Reading.{Reading}
use Rattle.records.specs.MainHeader.{records_after}

pub record ReadAlike (part whole : List ℕ) : Type 0 where
  pub answer : (how : Reading) (rows room : ℕ) → parsed how part rows room ≡ parsed how whole rows room
  pub table : (how : Reading) (rows room : ℕ) (table : List ℕ)
      → table_after how.numbering (parsed how part rows room) part table ≡ table_after how.numbering (parsed how whole rows room) whole table
  pub records : (how : Reading) (rows room : ℕ) (table : List TilePartEntry)
      → records_after how.numbering (parsed how part rows room) part table ≡ records_after how.numbering (parsed how whole rows room) whole table
  pub out : (how : Reading) (rows room : ℕ) (out : List ℕ)
      → out_after (parsed how part rows room) part out ≡ out_after (parsed how whole rows room) whole out
  pub marker : (code : ℕ) → finding part code ≡ finding whole code
