-- Every box of a file (docs/RULES.md, "Boxes"). A list of boxes opens a superbox, and a superbox holds a list of boxes.
use Rattle.std.specs.Prelude.{ℕ, zero, suc, ◌+◌, ◌-◌, ◌*◌, ◌/◌, cond, ◌≡◌, List, [], ◌∷◌, ◌++◌, length, take, drop, leb, Option, Some, None, Result, Ok, Err}
use Rattle.types.specs.Refusals.{refusal}
use Rattle.types.specs.declared.Refusal.{Refusal}
use Rattle.reader.specs.BoxRow.{box_row_bytes, end_of, rows_of}
use Rattle.reader.specs.BoxStep.{step_at}
use Rattle.reader.specs.declared.box_row.BoxEntry.{BoxEntry}
use Rattle.reader.specs.declared.box_step.ListStep.{ListStep}
use Rattle.reader.specs.declared.box_step.ListStep.TheVariants.{Plain, Superbox}
use Rattle.types.specs.declared.Reason.TheVariants.{TableTooSmall}

-- ---- lists of boxes

-- all boxes in file order, or the first refusal
pub data Listing : Type 0 where
  boxes : List BoxEntry → Listing
  refused : Refusal → Listing

unfoldable pub before : List BoxEntry → Listing → Listing
before es (boxes rest) = boxes (es ++ rest)
before es (refused r) = refused r

unfoldable pub then : Listing → Listing → Listing
unfolding before
then (boxes es) rest = before es rest
then (refused r) rest = refused r

-- the box here, what it holds, and the rest of the list, from where it ends
unfoldable pub on_step : Result (Option ListStep) Refusal → (BoxEntry → Listing) → (ℕ → Listing) → Listing
unfolding then before
on_step (Ok None) held rest = boxes []
on_step (Err r) held rest = refused r
on_step (Ok (Some (Plain e))) held rest = before (e ∷ []) (rest (end_of e))
on_step (Ok (Some (Superbox e))) held rest = before (e ∷ []) (then (held e) (rest (end_of e)))

unfoldable mutual
  unfolding on_step step_at

  pub list_from : ℕ → List ℕ → ℕ → ℕ → Listing
  list_from zero s depth at = boxes []
  list_from (suc n) s depth at = on_step (step_at s depth at) (λ e. superbox n s e) (λ to. list_from n s depth to)

  pub superbox : ℕ → List ℕ → BoxEntry → Listing
  superbox zero s e = boxes []
  superbox (suc n) s e = list_from n (take (end_of e) s) (e.depth + 1) e.content.0

-- the list that fills s from a position on. The count is never used up: each box is 8 bytes or more.
unfoldable pub boxes_in : List ℕ → ℕ → ℕ → Listing
unfolding list_from
boxes_in s depth at = list_from (suc (length s - at)) s depth at

-- what a superbox holds: a list one deeper, that fills its content
abbrev pub contents_of : List ℕ → BoxEntry → Listing
contents_of s e = boxes_in (take (end_of e) s) (e.depth + 1) e.content.0

-- a file: a list at depth 1, from its first byte to its last
abbrev pub boxes_of : List ℕ → Listing
boxes_of s = boxes_in s 1 0

-- ---- answers

unfoldable pub counted : Listing → Result ℕ Refusal
counted (boxes es) = Ok (length es)
counted (refused r) = Err r

-- the boxes that were listed; where the listing refuses, none
abbrev pub entries_of : Listing → List BoxEntry
entries_of (boxes es) = es
entries_of (refused r) = []

abbrev pub Accepted : Listing → Type 0
Accepted l = l ≡ boxes (entries_of l)

-- 18 comes last, only where all else accepts; its place is the boxes needed
unfoldable pub with_room : ℕ → Result ℕ Refusal → Result ℕ Refusal
with_room rows (Ok n) = cond (leb n rows) (Ok n) (Err (refusal TableTooSmall n))
with_room rows (Err r) = Err r

-- the answer for a file, and a table of so many rows
unfoldable pub listed : List ℕ → ℕ → Result ℕ Refusal
unfolding boxes_in counted with_room
listed s rows = with_room rows (counted (boxes_of s))

-- the table after an answer: the boxes' rows and the rest as it was, or all as it was
unfoldable pub written : Result ℕ Refusal → List BoxEntry → List ℕ → List ℕ
written (Ok n) es table = rows_of es ++ drop (box_row_bytes * n) table
written (Err r) es table = table

unfoldable pub listed_table : List ℕ → List ℕ → List ℕ
unfolding boxes_in listed written
listed_table s table = written (listed s (length table / box_row_bytes)) (entries_of (boxes_of s)) table
