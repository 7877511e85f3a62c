-- The scan's answer and table opened once: a law for each way that a call ends.
use Prim.Native.Nat.{ℕ, ◌*◌, ◌/◌, ◌≤◌, ◌<◌}
use native.Mathlib.Nat.{zero-add}
use native.Mathlib.Omega.{arith}
use mathlib.Core.Path.{◌≡◌, refl, sym, ap, ap₂, ◌∙◌}
use mathlib.Core.List.{List, ◌++◌}
use lib.ListN.{length, drop, length-map}
use lib.Dec.{leb}
use borrow.Author.Tests.{le-leb, lt-leb, leb-true}
use Rattle.std.specs.Prelude.{Result, Ok, Err}
use Rattle.numbers.specs.Bytes.{put}
use Rattle.types.specs.Refusals.{refusal}
use Rattle.types.specs.Row.{row_bytes, rows_of}
use Rattle.types.specs.Layout.{Layout}
use Rattle.types.specs.Layout as layout
use Rattle.types.proofs.RowStanding.{length_all}
use Rattle.types.specs.declared.Refusal.{Refusal}
use Rattle.types.specs.declared.TilePartEntry.{TilePartEntry}
use Rattle.parts.specs.Scan.{ScanEnd, ended, refused, scan_from, recorded, entries_from, ended_as, judged, with_room, scanned, written, scanned_table, written_in, scanned_in}
use Rattle.parts.proofs.ScanLaws.{step_outside, scan_ended, entries_ended, Scans}
use Rattle.numbers.proofs.Choice.{by_test}
use Rattle.types.specs.declared.Reason.TheVariants.{TableTooSmall}

-- ---- the answer

table_refused : {n : ℕ} {r : Refusal} → ◌≡◌ {A = Result ℕ Refusal} (Err r) (Ok n) → ⊥
table_refused e = let z : ◌≡◌ {A = ℕ} 0 1 = cc in omega arith

ended_count : (a : ScanEnd) (m n : ℕ) → ended_as a m ≡ Ok n → (a ≡ ended) × (m ≡ n)
unfolding ended_as
ended_count ended m n e = (refl, cc)
ended_count (refused r) m n e = absurd (table_refused e)

-- a scan that counts to the end counts its records, and is not refused
pub judged_table : (s : List ℕ) (start n : ℕ) → judged (scan_from s start) ≡ Ok n
    → ((scan_from s start).ended ≡ ended) × (length (entries_from s start) ≡ n)
unfolding judged entries_from
judged_table s start n e =
    let c = ended_count (scan_from s start).ended (length (scan_from s start).visits) n e in
    (c.0, length-map (scan_from s start).visits (recorded s) ∙ c.1)

module _ (s : List ℕ) (start rows : ℕ) where
  pub answer_refused : (r : Refusal) → judged (scan_from s start) ≡ Err r → scanned s start rows ≡ Err r
  unfolding scanned with_room
  answer_refused r e = ap (with_room rows) e

  pub answer_no_room : (n : ℕ) → judged (scan_from s start) ≡ Ok n → rows < n → scanned s start rows ≡ Err (refusal TableTooSmall n)
  unfolding scanned with_room
  answer_no_room n e h = ap (with_room rows) e ∙ rw (lt-leb _ _ h)

  pub answer_table : (n : ℕ) → judged (scan_from s start) ≡ Ok n → n ≤ rows → scanned s start rows ≡ Ok n
  unfolding scanned with_room
  answer_table n e h = ap (with_room rows) e ∙ rw (le-leb _ _ h)

  -- a start at or past the end gives an empty table
  judged_outside : length s ≤ start → judged (scan_from s start) ≡ Ok 0
  unfolding judged ended_as
  judged_outside h = ap judged (scan_ended s start (step_outside s start h))

  pub answer_outside : length s ≤ start → scanned s start rows ≡ Ok 0
  answer_outside h = answer_table 0 (judged_outside h) (omega arith)

-- a scan that is not refused gives as many records as it lists, and is accepted where the table has room
pub scans_judged : {s : List ℕ} {start : ℕ} {es : List TilePartEntry} (n : ℕ) → Scans s start es → length es ≡ n → judged (scan_from s start) ≡ Ok n
unfolding judged ended_as entries_from
scans_judged {s} {start} n h count =
    let visits : length (scan_from s start).visits ≡ n = sym (length-map (scan_from s start).visits (recorded s)) ∙ ap length h.entries ∙ count in
    ap₂ ended_as h.stops visits

pub scans_accepted : {s : List ℕ} {start : ℕ} {es : List TilePartEntry} (n rows : ℕ) → Scans s start es → length es ≡ n → n ≤ rows
    → scanned s start rows ≡ Ok n
scans_accepted {s} {start} n rows h count room = answer_table s start rows n (scans_judged n h count) room

-- ---- the table

module _ {B : Type 0} {width : ℕ} (L : Layout B width) (s : List ℕ) (start : ℕ) (table : List B) where
  pub kept_in : (r : Refusal) → scanned s start (length table / width) ≡ Err r → scanned_in L s start table ≡ table
  unfolding scanned_in written_in
  kept_in r e = ap (λ (a : Result ℕ Refusal). written_in L a (entries_from s start) table) e

  pub filled_in : (n : ℕ) → scanned s start (length table / width) ≡ Ok n → length (entries_from s start) ≡ n
      → scanned_in L s start table ≡ put table 0 (L.all (entries_from s start))
  unfolding scanned_in written_in put
  filled_in n e l =
      ap (λ (a : Result ℕ Refusal). written_in L a (entries_from s start) table) e
      ∙ ap (λ (k : ℕ). L.all (entries_from s start) ++ drop k table)
      (ap (λ (k : ℕ). width * k) (sym l) ∙ sym (length_all L (entries_from s start)) ∙ sym (zero-add (length (L.all (entries_from s start)))))

-- a table of rows
written_rows : (a : Result ℕ Refusal) (es : List TilePartEntry) (table : List ℕ) → written_in layout.rows a es table ≡ written a es table
unfolding written_in written
written_rows (Ok n) es table = refl
written_rows (Err r) es table = refl

module _ (s : List ℕ) (start : ℕ) (table : List ℕ) where
  pub scan_rows : scanned_in layout.rows s start table ≡ scanned_table s start table
  unfolding scanned_in scanned_table
  scan_rows = written_rows (scanned s start (length table / row_bytes)) (entries_from s start) table

  pub table_kept : (r : Refusal) → scanned s start (length table / row_bytes) ≡ Err r → scanned_table s start table ≡ table
  table_kept r e = sym scan_rows ∙ kept_in layout.rows s start table r e

  pub table_filled : (n : ℕ) → scanned s start (length table / row_bytes) ≡ Ok n → length (entries_from s start) ≡ n
      → scanned_table s start table ≡ put table 0 (rows_of (entries_from s start))
  table_filled n e l = sym scan_rows ∙ filled_in layout.rows s start table n e l

  pub table_outside : length s ≤ start → scanned_table s start table ≡ table
  unfolding scanned_table written rows_of
  table_outside h =
      ap₂ (λ (a : Result ℕ Refusal) (es : List TilePartEntry). written a es table) (answer_outside s start (length table / row_bytes) h) (entries_ended s start (step_outside s start h))

-- ---- what an accepting answer says

accepted : (s : List ℕ) (start rows n : ℕ) (a : Result ℕ Refusal) → judged (scan_from s start) ≡ a → with_room rows a ≡ Ok n
    → (judged (scan_from s start) ≡ Ok n) × (n ≤ rows)
unfolding with_room
accepted s start rows n (Ok m) e w =
    by_test (λ (a : Result ℕ Refusal). a ≡ Ok n → (judged (scan_from s start) ≡ Ok n) × (n ≤ rows)) (leb m rows)
    (λ h k. let same : m ≡ n = cc in (e ∙ k, omega (arith, leb-true m rows h)))
    (λ _ k. absurd (table_refused k)) w
accepted s start rows n (Err r) e w = absurd (table_refused w)

-- a call that gives a table counted its records, and its scan was not refused
pub answer_accepts : (s : List ℕ) (start rows n : ℕ) → scanned s start rows ≡ Ok n
    → ((scan_from s start).ended ≡ ended) × (length (entries_from s start) ≡ n)
unfolding scanned
answer_accepts s start rows n e = judged_table s start n (accepted s start rows n (judged (scan_from s start)) refl e).0

-- its table is of all records, and has room for them
pub answer_counts : (s : List ℕ) (start rows n : ℕ) → scanned s start rows ≡ Ok n
    → (n ≡ length (entries_from s start)) × (n ≤ rows)
unfolding scanned
answer_counts s start rows n e =
    let a = accepted s start rows n (judged (scan_from s start)) refl e in (sym (judged_table s start n a.0).1, a.1)
