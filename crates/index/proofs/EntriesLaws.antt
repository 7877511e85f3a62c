-- The records that keys say, one key after the other: a key's record is there if its number is below that of the rows, and then it is the one at that row;
-- it is counted, or its row stored, if it is the tile's.
use Prim.Native.Nat.{ℕ, ◌+◌, ◌*◌, ◌/◌, ◌≤◌, ◌<◌}
use native.Mathlib.Nat.{zero-add}
use native.Mathlib.Numerals.{add-one}
use native.Mathlib.Omega.{arith}
use mathlib.Core.Path.{◌≡◌, refl, sym, ap, ap₂, ◌∙◌}
use mathlib.Core.Bool.{Bool, true, false, cond}
use mathlib.Core.List.{List, [], ◌∷◌, ◌++◌}
use lib.ListN.{length, drop, get_or, drop_of_length-le}
use lib.Seq.{drop-cons}
use lib.Dec.{eqb, leb, ltb}
use borrow.Author.Tests.{ltb-true, ltb-false, le-leb, lt-leb, leb-true}
use Rattle.std.specs.Prelude.{Result, Ok, Err}
use Rattle.numbers.specs.Bytes.{be, put}
use Rattle.numbers.proofs.Choice.{by_test, by_bool}
use Rattle.numbers.proofs.BytesLaws.{put_start}
use Rattle.types.specs.Refusals.{refusal}
use Rattle.types.specs.Row.{row_bytes, entry_at, row_of, rows_of, records_in}
use Rattle.types.specs.declared.Refusal.{Refusal}
use Rattle.types.specs.declared.TilePartEntry.{TilePartEntry}
use Rattle.types.proofs.RowLaws.{length_rows}
use Rattle.types.proofs.RowReading.{length_records, record_here}
use Rattle.types.proofs.RowStanding.{rows, length_more, put_last, stored}
use Rattle.index.specs.Index.{number_of}
use Rattle.index.specs.Entries.{is_first, first_if, picked, entries_by, given, given_rows}
use Rattle.index.specs.Run.{run_in}
use Rattle.types.specs.declared.Reason.TheVariants.{TableTooSmall}

-- ---- the record of a number

module _ (table : List ℕ) (tile : ℕ) {n k : ℕ} (same : n ≡ k) where
  pub numbered : {t : ℕ} → n < length table / row_bytes → t ≡ be 2 table (n * row_bytes) → eqb t tile ≡ is_first tile (drop k (records_in table))
  unfolding is_first
  numbered h is = ap (λ (t : ℕ). eqb t tile) is ∙ ap (is_first tile) (sym (record_here table n h)) ∙ ap (λ (m : ℕ). is_first tile (drop m (records_in table))) same

  pub not_numbered : length table / row_bytes ≤ n → false ≡ is_first tile (drop k (records_in table))
  unfolding is_first
  not_numbered h = ap (is_first tile) (sym (drop_of_length-le (records_in table) {i = k} (omega (arith, length_records table))))

module _ (table : List ℕ) (tile k : ℕ) where
  has_row : is_first tile (drop k (records_in table)) ≡ true → k < length table / row_bytes
  has_row found =
      by_bool (ltb k (length table / row_bytes))
      (ltb-true _ _)
      (λ past. let none = not_numbered table tile refl (ltb-false _ _ past) in let z : ◌≡◌ {A = ℕ} 0 1 = cc in absurd (omega arith))

  first_there : is_first tile (drop k (records_in table)) ≡ true → first_if tile (drop k (records_in table)) ≡ entry_at table (k * row_bytes) ∷ []
  unfolding is_first first_if
  first_there found =
      let row = record_here table k (has_row found) in
      let is : eqb (be 2 table (k * row_bytes)) tile ≡ true = ap (is_first tile) (sym row) ∙ found in
      ap (first_if tile) row ∙ ap (λ (b : Bool). cond b (entry_at table (k * row_bytes) ∷ []) []) is

first_not : (tile : ℕ) (es : List TilePartEntry) → is_first tile es ≡ false → first_if tile es ≡ []
unfolding is_first first_if
first_not tile [] missing = refl
first_not tile (e ∷ rest) missing = rw missing

-- ---- one key

-- it was told whether the record that the key here says is there, and the tile's
pub record Told (tile : ℕ) (table run : List ℕ) (i : ℕ) (there : Bool) : Type 0 where
  pub inside : i < length run
  pub is : there ≡ is_first tile (drop (number_of (get_or run i 0)) (records_in table))

module _ {tile : ℕ} {table run : List ℕ} {i : ℕ} {there : Bool} (s : Told tile table run i there) where
  picked_next : {l : List TilePartEntry} → first_if tile (drop (number_of (get_or run i 0)) (records_in table)) ≡ l
      → picked tile (records_in table) (drop i run) ≡ l ++ picked tile (records_in table) (drop (i + 1) run)
  unfolding picked
  picked_next first =
      let h = s.inside in
      let here : drop i run ≡ get_or run i 0 ∷ drop (i + 1) run = rw (add-one, drop-cons run i 0) in
      ap (picked tile (records_in table)) here ∙ ap (λ (l : List TilePartEntry). l ++ picked tile (records_in table) (drop (i + 1) run)) first

  -- the record has a row
  pub row_there : there ≡ true → number_of (get_or run i 0) < length table / row_bytes
  row_there found = has_row table tile (number_of (get_or run i 0)) (sym s.is ∙ found)

  picked_one : there ≡ true
      → picked tile (records_in table) (drop i run) ≡ entry_at table (number_of (get_or run i 0) * row_bytes) ∷ picked tile (records_in table) (drop (i + 1) run)
  picked_one found = picked_next (first_there table tile (number_of (get_or run i 0)) (sym s.is ∙ found))

  picked_none : there ≡ false → picked tile (records_in table) (drop i run) ≡ picked tile (records_in table) (drop (i + 1) run)
  picked_none missing = picked_next (first_not tile (drop (number_of (get_or run i 0)) (records_in table)) (sym s.is ∙ missing))

picked_end : (tile : ℕ) (es : List TilePartEntry) (run : List ℕ) (i : ℕ) → length run ≤ i → picked tile es (drop i run) ≡ []
unfolding picked
picked_end tile es run i h = ap (picked tile es) (drop_of_length-le run h)

-- ---- counted

-- of the first i keys so many records were counted
pub record Counted (tile : ℕ) (table run : List ℕ) (n i : ℕ) : Type 0 where
  pub within : i ≤ length run
  pub few : n ≤ i
  pub total : n + length (picked tile (records_in table) (drop i run)) ≡ length (picked tile (records_in table) run)

module _ {tile : ℕ} {table run : List ℕ} where
  pub none_counted : Counted tile table run 0 0
  none_counted = record { within = omega arith; few = omega arith; total = zero-add _ }

  module _ {n i : ℕ} where
    pub one_counted : {there : Bool} {m : ℕ} → Told tile table run i there → there ≡ true → m ≡ n + 1 → Counted tile table run n i → Counted tile table run m (i + 1)
    one_counted s found new c =
        let more = ap length (picked_one s found) in
        record { within = omega arith; few = omega arith; total = omega (arith, c.total) }

    pub skip_counted : {there : Bool} {m : ℕ} → Told tile table run i there → there ≡ false → m ≡ n → Counted tile table run n i → Counted tile table run m (i + 1)
    skip_counted s missing new c =
        let same = ap length (picked_none s missing) in
        record { within = omega arith; few = omega arith; total = omega (arith, c.total) }

    pub all_counted : length run ≤ i → Counted tile table run n i → n ≡ length (picked tile (records_in table) run)
    all_counted h c = let none = ap length (picked_end tile (records_in table) run i h) in omega (arith, c.total)

-- ---- stored

-- what is left, put where the next row goes, makes the table that all rows make of the one lent
pub record Filled (tile : ℕ) (table run lent out : List ℕ) (at i : ℕ) : Type 0 where
  pub within : i ≤ length run
  pub same : length out ≡ length lent
  pub room : at + length (rows_of (picked tile (records_in table) (drop i run))) ≤ length out
  pub whole : put out at (rows_of (picked tile (records_in table) (drop i run))) ≡ put lent 0 (rows_of (picked tile (records_in table) run))

module _ {tile : ℕ} {table run lent : List ℕ} where
  pub none_filled : row_bytes * length (picked tile (records_in table) run) ≤ length lent → Filled tile table run lent lent 0 0
  none_filled fits = record { within = omega arith; same = refl; room = omega (arith, length_rows (picked tile (records_in table) run)); whole = refl }

  module _ {out : List ℕ} {at i : ℕ} where
    -- a record that is there has room
    pub one_room : {there : Bool} → Told tile table run i there → there ≡ true → Filled tile table run lent out at i → at + row_bytes ≤ length out
    one_room s found f =
        let long = ap (λ (l : List TilePartEntry). length (rows_of l)) (picked_one s found) in
        omega (arith, length_more rows (entry_at table (number_of (get_or run i 0) * row_bytes)) (picked tile (records_in table) (drop (i + 1) run)), f.room)

    pub one_filled : {there : Bool} {n : ℕ} {e : TilePartEntry} {next : List ℕ} {to : ℕ} → Told tile table run i there → there ≡ true
        → n ≡ number_of (get_or run i 0) → e ≡ entry_at table (n * row_bytes) → next ≡ put out at (row_of e) → to ≡ at + row_bytes
        → Filled tile table run lent out at i → Filled tile table run lent next to (i + 1)
    one_filled {e = e} {next = next} s found number is new on f =
        let rest : List TilePartEntry = picked tile (records_in table) (drop (i + 1) run) in
        let read : e ≡ entry_at table (number_of (get_or run i 0) * row_bytes) = is ∙ ap (λ (k : ℕ). entry_at table (k * row_bytes)) number in
        let first : picked tile (records_in table) (drop i run) ≡ e ∷ rest = picked_one s found ∙ ap (λ (x : TilePartEntry). x ∷ rest) (sym read) in
        let long = ap (λ (l : List TilePartEntry). lib.ListN.length (rows_of l)) first in
        let longer = length_more rows e rest in
        let w = stored rows rest new (omega (arith, f.room)) in
        record {
          within = omega (arith, s.inside);
          same = w.same ∙ f.same;
          room = omega (arith, f.room, w.same);
          whole = ap (λ (p : ℕ). put next p (rows_of rest)) on ∙ w.whole ∙ ap (λ (l : List TilePartEntry). put out at (rows_of l)) (sym first) ∙ f.whole;
        }

    pub skip_filled : {there : Bool} {next : List ℕ} {to : ℕ} → Told tile table run i there → there ≡ false → next ≡ out → to ≡ at
        → Filled tile table run lent out at i → Filled tile table run lent next to (i + 1)
    skip_filled s missing new on f =
        let rest : List TilePartEntry = picked tile (records_in table) (drop (i + 1) run) in
        let all = picked_none s missing in
        record {
          within = omega (arith, s.inside);
          same = ap lib.ListN.length new ∙ f.same;
          room = omega (arith, ap (λ (l : List TilePartEntry). lib.ListN.length (rows_of l)) all, ap lib.ListN.length new, f.room);
          whole = ap₂ (λ (x : List ℕ) (p : ℕ). put x p (rows_of rest)) new on ∙ ap (λ (l : List TilePartEntry). put out at (rows_of l)) (sym all) ∙ f.whole;
        }

    pub all_filled : length run ≤ i → Filled tile table run lent out at i → out ≡ put lent 0 (rows_of (picked tile (records_in table) run))
    all_filled h f =
        sym (put_last rows out at) ∙ ap (λ (l : List TilePartEntry). put out at (rows_of l)) (sym (picked_end tile (records_in table) run i h)) ∙ f.whole

-- ---- given

module _ (n room : ℕ) where
  pub given_all : n ≤ room → Ok n ≡ given n room
  unfolding given
  given_all h = rw (le-leb _ _ h)

  pub given_none : room < n → Err (refusal TableTooSmall n) ≡ given n room
  unfolding given
  given_none h = rw (lt-leb _ _ h)

given_entries : (n room m : ℕ) → given n room ≡ Ok m → (n ≡ m) × (n ≤ room)
unfolding given
given_entries n room m =
    by_test (λ (a : Result ℕ Refusal). a ≡ Ok m → (n ≡ m) × (n ≤ room)) (leb n room)
    (λ h e. (cc, leb-true n room h))
    (λ _ e. absurd (let z : ◌≡◌ {A = ℕ} 0 1 = cc in omega arith))

-- the answer stands before a row is written
pub record Answered (index : List ℕ) (tile : ℕ) (es : List TilePartEntry) (out run : List ℕ) (n : ℕ) (answer : Result ℕ Refusal) : Type 0 where
  pub there : run ≡ run_in index tile
  pub counts : n ≡ length (picked tile es run)
  pub is : answer ≡ given n (length out / row_bytes)

module _ {index : List ℕ} {tile : ℕ} {es : List TilePartEntry} {out run : List ℕ} {n : ℕ} {answer : Result ℕ Refusal} (a : Answered index tile es out run n answer) where
  all_of : picked tile es run ≡ entries_by index tile es
  unfolding entries_by
  all_of = ap (picked tile es) a.there

  pub answers : answer ≡ given (length (entries_by index tile es)) (length out / row_bytes)
  answers = a.is ∙ ap (λ (k : ℕ). given k (length out / row_bytes)) (a.counts ∙ ap length all_of)

  pub kept : {r : Refusal} → answer ≡ Err r → out ≡ given_rows answer (entries_by index tile es) out
  unfolding given_rows
  kept refused = ap (λ (x : Result ℕ Refusal). given_rows x (entries_by index tile es) out) (sym refused)

  accepted : {m : ℕ} → answer ≡ Ok m → (n ≡ m) × (n ≤ length out / row_bytes)
  accepted {m} e = given_entries n (length out / row_bytes) m (sym a.is ∙ e)

  pub fits : {m : ℕ} → answer ≡ Ok m → row_bytes * length (picked tile es run) ≤ length out
  fits e = omega (arith, (accepted e).1, a.counts)

  pub filled : {m : ℕ} {next : List ℕ} → answer ≡ Ok m → next ≡ put out 0 (rows_of (picked tile es run))
      → next ≡ given_rows answer (entries_by index tile es) out
  unfolding given_rows
  filled {m} e new =
      let long : length (rows_of (picked tile es run)) ≡ row_bytes * m = omega (arith, length_rows (picked tile es run), a.counts, (accepted e).0) in
      new
      ∙ put_start out (rows_of (picked tile es run))
      ∙ ap₂ (λ (l : List TilePartEntry) (k : ℕ). rows_of l ++ drop k out) all_of long
      ∙ ap (λ (x : Result ℕ Refusal). given_rows x (entries_by index tile es) out) (sym e)
