-- How records stand in a table: as rows of bytes, or as themselves. A loop that fills a table, one record a turn, is argued once for both: what is left,
-- put where the next record goes, makes the same table before a turn and after it.
use Prim.Native.Nat.{ℕ, zero, suc, ◌+◌, ◌*◌, ◌/◌, ◌≤◌}
use native.Mathlib.Nat.{mul-zero, mul-suc, mul_comm, mul-le-mul_left, div-mul-le_self}
use native.Mathlib.Omega.{arith}
use mathlib.Core.Path.{◌≡◌, refl, sym, ap, ◌∙◌}
use mathlib.Core.List.{List, [], ◌∷◌, ◌++◌, append_assoc}
use lib.ListN.{length, drop, length-append}
use lib.Seq.{drop-nil, drop-append-add}
use Rattle.numbers.specs.Bytes.{put}
use Rattle.numbers.proofs.BytesLaws.{put_put, put_none, put_apart, length_put}
use Rattle.types.specs.declared.TilePartEntry.{TilePartEntry}
use Rattle.types.specs.Layout.{Layout}
pub use Rattle.types.specs.Layout.{rows_none, rows_more, rows, records}

module _ {B : Type 0} {width : ℕ} (L : Layout B width) where
  pub length_more : (e : TilePartEntry) (es : List TilePartEntry) → length (L.all (e ∷ es)) ≡ width + length (L.all es)
  length_more e es = rw (L.more, length-append, L.wide)

  pub length_all : (es : List TilePartEntry) → length (L.all es) ≡ width * length es
  length_all [] = rw L.none (sym (mul-zero width))
  length_all (e ∷ es) = length_more e es ∙ rw (length_all es, mul-suc width (length es)) (omega arith)

  -- as many records as there is room for fit
  pub room_for : {n t : ℕ} → n ≤ t / width → width * n ≤ t
  room_for {n} {t} few = omega (arith, mul-le-mul_left width few, mul_comm width (t / width), div-mul-le_self t width)

  pub all_append : (xs ys : List TilePartEntry) → L.all (xs ++ ys) ≡ L.all xs ++ L.all ys
  all_append [] ys = rw L.none
  all_append (e ∷ xs) ys = rw (L.more, L.more, all_append xs ys) (sym (append_assoc (L.one e) (L.all xs) (L.all ys)))

  -- the records after the first n stand after n widths
  pub all_drop : (n : ℕ) (es : List TilePartEntry) → drop (width * n) (L.all es) ≡ L.all (drop n es)
  all_drop zero es = ap (λ (k : ℕ). drop k (L.all es)) (mul-zero width)
  all_drop (suc n) [] = rw L.none (drop-nil (width * suc n))
  all_drop (suc n) (e ∷ es) =
      let past : width * suc n ≡ length (L.one e) + width * n = mul-suc width n ∙ omega (arith, L.wide e) in
      rw (L.more, past) (drop-append-add (L.one e) (L.all es) (width * n) ∙ all_drop n es)

  -- nothing is left
  pub put_last : (t : List B) (at : ℕ) → put t at (L.all []) ≡ t
  put_last t at = rw L.none (put_none t at)

  -- one more stands
  pub record Stored (t next : List B) (at : ℕ) (e : TilePartEntry) (es : List TilePartEntry) : Type 0 where
    pub same : length next ≡ length t
    pub whole : put next (at + width) (L.all es) ≡ put t at (L.all (e ∷ es))

  pub stored : {t next : List B} {at : ℕ} {e : TilePartEntry} (es : List TilePartEntry) → next ≡ put t at (L.one e) → at + length (L.all (e ∷ es)) ≤ length t
      → Stored t next at e es
  stored {t} {next} {at} {e} es new room =
      let long = length_more e es in
      record {
        same = ap length new ∙ length_put t at (L.one e) (omega (arith, L.wide e));
        whole =
            ap (λ (x : List B). put x (at + width) (L.all es)) new
            ∙ put_put t at (L.one e) (L.all es) width (L.wide e) (omega arith)
            ∙ ap (put t at) (sym (L.more e es));
      }

-- ---- several places at once: pieces, each put where it goes, and none before where the one before it ends

pub record Piece (B : Type 0) : Type 0 where
  pub place : ℕ
  pub items : List B

module _ {B : Type 0} where
  abbrev pub laid : List (Piece B) → List B → List B
  laid [] t = t
  laid (p ∷ ps) t = laid ps (put t p.place p.items)

  abbrev pub Before : List (Piece B) → ℕ → Type 0
  Before [] at = Unit {0}
  Before (p ∷ ps) at = (p.place + length p.items ≤ at) × Before ps at

  -- what is put behind them may be put before they are
  behind : (ps : List (Piece B)) (t : List B) (at : ℕ) (xs : List B) → Before ps at → at + length xs ≤ length t
      → (laid ps (put t at xs) ≡ put (laid ps t) at xs) × (length (laid ps t) ≡ length t)
  behind [] t at xs before room = (refl, refl)
  behind (p ∷ ps) t at xs before room =
      let long = length_put t p.place p.items (omega (arith, before.0, room)) in
      let rest = behind ps (put t p.place p.items) at xs before.1 (omega (arith, long, room)) in
      (ap (laid ps) (sym (put_apart t p.place p.items at xs before.0 room)) ∙ rest.0, rest.1 ∙ long)

  -- one more stands behind them
  pub stored_behind : {width : ℕ} (L : Layout B width) (ps : List (Piece B)) (t : List B) {next : List B} (at : ℕ) (e : TilePartEntry) (es : List TilePartEntry) → Before ps at → next ≡ put t at (L.one e)
      → at + length (L.all (e ∷ es)) ≤ length t → put (laid ps next) (at + width) (L.all es) ≡ put (laid ps t) at (L.all (e ∷ es))
  stored_behind {width} L ps t at e es before new room =
      let b = behind ps t at (L.one e) before (omega (arith, L.wide e, length_more L e es, room)) in
      (stored L es (ap (laid ps) new ∙ b.0) (omega (arith, b.1, room))).whole
