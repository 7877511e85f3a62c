-- How records stand in a table, one after the other, each so many items wide: as rows of bytes, or as themselves.
use Prim.Native.Nat.{ℕ, zero, suc, ◌+◌, ◌-◌, ◌/◌, ◌<◌}
use native.Mathlib.Nat.{sub-zero, div-one}
use mathlib.Core.Path.{◌≡◌, refl, sym, ap, ◌∙◌}
use mathlib.Core.List.{List, [], ◌∷◌, ◌++◌}
use lib.ListN.{length}
use lib.Dec.{lit<}
use Rattle.numbers.specs.Bytes.{bytes_of}
use Rattle.types.specs.declared.PartNumbers.{PartNumbers}
use Rattle.types.specs.declared.PartNumbers.TheVariants.{Known, NotKnown}
use Rattle.types.specs.declared.TilePartEntry.{TilePartEntry}
use Rattle.types.specs.Row.{row_bytes, number_bytes, row_of, rows_of, records_at, records_from, records_in}

pub record Layout (B : Type 0) (width : ℕ) : Type 0 where
  -- the items of a record, and of records
  pub one : TilePartEntry → List B
  pub all : List TilePartEntry → List B
  pub none : all [] ≡ []
  pub more : (e : TilePartEntry) (es : List TilePartEntry) → all (e ∷ es) ≡ one e ++ all es
  pub wide : (e : TilePartEntry) → length (one e) ≡ width
  pub some : 0 < width
  -- the records of a table
  pub within : List B → List TilePartEntry
  pub count : (t : List B) → length (within t) ≡ length t / width

pub rows_none : rows_of [] ≡ []
unfolding rows_of
rows_none = refl

pub rows_more : (e : TilePartEntry) (es : List TilePartEntry) → rows_of (e ∷ es) ≡ row_of e ++ rows_of es
unfolding rows_of
rows_more e es = refl

row_long : (index offset long : ℕ) (k : PartNumbers) → length (bytes_of 2 index ++ (bytes_of 8 offset ++ (bytes_of 8 long ++ number_bytes k))) ≡ row_bytes
unfolding bytes_of number_bytes
row_long index offset long (Known t n) = refl
row_long index offset long NotKnown = refl

pub length_row : (e : TilePartEntry) → length (row_of e) ≡ row_bytes
unfolding row_of
length_row e = row_long e.tile_index e.offset.0 e.length e.numbers

pub length_at : (m : ℕ) (s : List ℕ) (at : ℕ) → length (records_at m s at) ≡ m
unfolding records_at
length_at zero s at = refl
length_at (suc m) s at = ap suc (length_at m s (at + row_bytes))

-- as many as there are whole rows
pub length_records : (table : List ℕ) → length (records_in table) ≡ length table / row_bytes
unfolding records_in records_from
length_records table = length_at ((length table - 0) / row_bytes) table 0 ∙ ap (λ (n : ℕ). n / row_bytes) (sub-zero (length table))

abbrev pub rows : Layout ℕ row_bytes
rows =
    record {
      one = row_of;
      all = rows_of;
      none = rows_none;
      more = rows_more;
      wide = length_row;
      some = lit< tt;
      within = records_in;
      count = length_records;
    }

abbrev pub records : Layout TilePartEntry 1
records =
    record {
      one = λ e. e ∷ [];
      all = λ es. es;
      none = refl;
      more = λ e es. refl;
      wide = λ e. refl;
      some = lit< tt;
      within = λ t. t;
      count = λ t. sym (div-one (length t));
    }
