-- The listing's answer and table opened once: a law for each way that a call ends.
use Prim.Native.Nat.{ℕ, ◌*◌, ◌/◌, ◌≤◌, ◌<◌}
use native.Mathlib.Omega.{arith}
use mathlib.Core.Path.{◌≡◌, refl, sym, ap, ◌∙◌}
use mathlib.Core.List.{List, ◌++◌}
use lib.ListN.{length, drop}
use borrow.Author.Tests.{le-leb, lt-leb, leb-true}
use lib.Dec.{leb}
use Rattle.std.specs.Prelude.{Result, Ok, Err}
use Rattle.numbers.specs.Bytes.{put}
use Rattle.numbers.proofs.BytesLaws.{put_start}
use Rattle.numbers.proofs.Choice.{by_test}
use Rattle.types.specs.Refusals.{refusal}
use Rattle.types.specs.declared.Refusal.{Refusal}
use Rattle.types.specs.declared.Reason.TheVariants.{TableTooSmall}
use Rattle.reader.specs.BoxRow.{rows_of}
use Rattle.reader.specs.Boxes.{boxes_in, counted, entries_of, Accepted, with_room, listed, written, listed_table}
use Rattle.reader.proofs.BoxRowLaws.{length_rows}
use Rattle.reader.proofs.BoxesCounting.{counted_boxes}

module _ (s : List ℕ) (rows : ℕ) where
  opened : listed s rows ≡ with_room rows (counted (boxes_in s 1 0))
  unfolding listed
  opened = refl

  pub answer_refused : (r : Refusal) → counted (boxes_in s 1 0) ≡ Err r → listed s rows ≡ Err r
  unfolding with_room
  answer_refused r e = opened ∙ ap (with_room rows) e

  pub answer_no_room : (n : ℕ) → counted (boxes_in s 1 0) ≡ Ok n → rows < n → listed s rows ≡ Err (refusal TableTooSmall n)
  unfolding with_room
  answer_no_room n e h = opened ∙ ap (with_room rows) e ∙ rw (lt-leb _ _ h)

  pub answer_boxes : (n : ℕ) → counted (boxes_in s 1 0) ≡ Ok n → n ≤ rows → listed s rows ≡ Ok n
  unfolding with_room
  answer_boxes n e h = opened ∙ ap (with_room rows) e ∙ rw (le-leb _ _ h)

-- so many boxes were listed, and have room
room_of : (rows n : ℕ) (a : Result ℕ Refusal) → with_room rows a ≡ Ok n → (a ≡ Ok n) × (n ≤ rows)
unfolding with_room
room_of rows n (Ok m) =
    by_test (λ (x : Result ℕ Refusal). x ≡ Ok n → (◌≡◌ {A = Result ℕ Refusal} (Ok m) (Ok n)) × (n ≤ rows)) (leb m rows)
    (λ h e. let same : m ≡ n = cc in (e, omega (arith, leb-true m rows h, same)))
    (λ h e. absurd (cc))
room_of rows n (Err r) = λ e. absurd (cc)

pub record Answered (s : List ℕ) (rows n : ℕ) : Type 0 where
  pub accepted : Accepted (boxes_in s 1 0)
  pub counts : length (entries_of (boxes_in s 1 0)) ≡ n
  pub room : n ≤ rows

pub answered : (s : List ℕ) (rows n : ℕ) → listed s rows ≡ Ok n → Answered s rows n
answered s rows n e =
    let r = room_of rows n (counted (boxes_in s 1 0)) (sym (opened s rows) ∙ e) in
    let c = counted_boxes (boxes_in s 1 0) n r.0 in
    record { accepted = c.0; counts = c.1; room = r.1 }

-- ---- the table

module _ (s table : List ℕ) where
  written_as : (a : Result ℕ Refusal) → listed s (length table / 29) ≡ a → listed_table s table ≡ written a (entries_of (boxes_in s 1 0)) table
  unfolding listed_table
  written_as a e = ap (λ (x : Result ℕ Refusal). written x (entries_of (boxes_in s 1 0)) table) e

  pub table_kept : (r : Refusal) → listed s (length table / 29) ≡ Err r → listed_table s table ≡ table
  unfolding written
  table_kept r e = written_as (Err r) e

  pub table_filled : (n : ℕ) → listed s (length table / 29) ≡ Ok n → listed_table s table ≡ put table 0 (rows_of (entries_of (boxes_in s 1 0)))
  unfolding written
  table_filled n e =
      let es = entries_of (boxes_in s 1 0) in
      let long : 29 * n ≡ length (rows_of es) = sym (length_rows es ∙ ap (λ (k : ℕ). 29 * k) (answered s (length table / 29) n e).counts) in
      written_as (Ok n) e ∙ ap (λ (k : ℕ). rows_of es ++ drop k table) long ∙ sym (put_start table (rows_of es))
