-- Writing the boxes of a list that was accepted: those passed up to here stand in the table, and the next has room.
use Prim.Native.Nat.{ℕ, ◌+◌, ◌-◌, ◌*◌, ◌≤◌, ◌<◌}
use native.Mathlib.Omega.{arith}
use mathlib.Core.Path.{◌≡◌, refl, sym, ap, ap₂, ◌∙◌}
use mathlib.Core.Bool.{false≢true}
use mathlib.Core.List.{List, [], ◌∷◌, ◌++◌, append_assoc, append-nil}
use lib.ListN.{length, length-append}
use Rattle.numbers.specs.Bytes.{put}
use Rattle.numbers.proofs.BytesLaws.{put_put, put_none, length_put}
use Rattle.types.specs.declared.Refusal.{Refusal}
use Rattle.std.specs.Prelude.{Option, Some, None, Result, Ok, Err, is_some}
use Rattle.std.specs.Result.{result_unwrap_or}
use Rattle.reader.specs.BoxRow.{end_of, row_of, rows_of}
use Rattle.reader.specs.BoxStep.{step_at}
use Rattle.reader.specs.Boxes.{Listing, boxes, refused, before, boxes_in, contents_of, entries_of, Accepted}
use Rattle.reader.specs.declared.box_row.BoxEntry.{BoxEntry}
use Rattle.reader.specs.declared.box_step.ListStep.{ListStep}
use Rattle.reader.specs.declared.box_step.ListStep.TheVariants.{Plain, Superbox}
use Rattle.reader.proofs.BoxesLaws.{Passed, none_passed, all_passed, stops, pass_plain, stops_inside, pass_superbox}
use Rattle.reader.proofs.BoxRowLaws.{length_rows, rows_append, rows_one, rows_none}

-- ---- what stands in a table

-- the rows of some boxes, from the first on, up to where the next goes
pub record Written (lent : List ℕ) (first : ℕ) (gone : List BoxEntry) (table : List ℕ) (row : ℕ) : Type 0 where
  pub next : row ≡ first + 29 * length gone
  pub same : length table ≡ length lent
  pub rows : table ≡ put lent first (rows_of gone)

none_written : (lent : List ℕ) (first : ℕ) → Written lent first [] lent first
none_written lent first = record { next = omega arith; same = refl; rows = sym (ap (put lent first) rows_none ∙ put_none lent first) }

row_alone : (e : BoxEntry) → row_of e ≡ rows_of (e ∷ [])
row_alone e = sym (rows_one e [] ∙ ap (λ (r : List ℕ). row_of e ++ r) rows_none ∙ append-nil (row_of e))

more_written : {lent : List ℕ} {first : ℕ} {gone : List BoxEntry} {table : List ℕ} {row : ℕ} → Written lent first gone table row
    → (es : List BoxEntry) {next : List ℕ} {to : ℕ} → next ≡ put table row (rows_of es) → to ≡ row + 29 * length es → row + 29 * length es ≤ length lent
    → Written lent first (gone ++ es) next to
more_written {lent} {first} {gone} {table} {row} w es {next} {to} new there room =
    let g = length_rows gone in
    let l = length_rows es in
    let n = w.next in
    record {
      next = omega (arith, w.next, there, length-append gone es);
      same = ap length new ∙ length_put table row (rows_of es) (omega (arith, w.same, l)) ∙ w.same;
      rows =
          new
          ∙ ap₂ (λ (t : List ℕ) (k : ℕ). put t k (rows_of es)) w.rows n
          ∙ put_put lent first (rows_of gone) (rows_of es) (29 * length gone) g (omega arith)
          ∙ ap (put lent first) (sym (rows_append gone es));
    }

-- ---- what was accepted

never : {l : Listing} {r : Refusal} → Accepted l → l ≡ refused r → ⊥
never {l} {r} a e = let z : ◌≡◌ {A = ℕ} 0 1 = cc in omega arith

at_least : (l rest : Listing) (es : List BoxEntry) → Accepted l → l ≡ before es rest → length es ≤ length (entries_of l)
unfolding before
at_least l (boxes more) es a e = omega (arith, ap (λ (x : Listing). length (entries_of x)) e, length-append es more)
at_least l (refused r) es a e = absurd (never a e)

-- where there are no more than were passed, those are all
all_there : (l rest : Listing) (es : List BoxEntry) → Accepted l → l ≡ before es rest → length (entries_of l) ≤ length es → es ≡ entries_of l
unfolding before
all_there l (boxes []) es a e h = sym (ap entries_of e ∙ append-nil es)
all_there l (boxes (x ∷ more)) es a e h = absurd (omega (arith, ap (λ (x : Listing). length (entries_of x)) e, length-append es (x ∷ more)))
all_there l (refused r) es a e h = absurd (never a e)

-- ---- the loop

pub record Filling (s : List ℕ) (depth start first : ℕ) (lent table : List ℕ) (at row : ℕ) : Type 0 where
  pub gone : List BoxEntry
  pub passed : Passed s depth start at gone
  pub written : Written lent first gone table row

pub none_filled : (s : List ℕ) (depth start first : ℕ) (lent : List ℕ) → Filling s depth start first lent lent start first
none_filled s depth start first lent = record { gone = []; passed = none_passed s depth start; written = none_written lent first }

-- what the step gave, where the code asks for it in an accepted list
step_some : (step : Result (Option ListStep) Refusal) (x : ListStep) → result_unwrap_or step None ≡ Some x → step ≡ Ok (Some x)
step_some (Ok o) x e = ap Ok e
step_some (Err r) x e = absurd (false≢true (ap is_some e))

pub step_given : {found step : Result (Option ListStep) Refusal} {o : Option ListStep} {y x : ListStep} → step ≡ found
    → o ≡ result_unwrap_or step None → o ≡ Some y → y ≡ x → found ≡ Ok (Some x)
step_given {step = step} {x = x} e u f g = sym e ∙ step_some step x (sym u ∙ f ∙ ap Some g)

module _ {s : List ℕ} {depth start first : ℕ} {lent : List ℕ} (accepted : Accepted (boxes_in s depth start))
    (room : first + 29 * length (entries_of (boxes_in s depth start)) ≤ length lent) {table : List ℕ} {at row : ℕ} (f : Filling s depth start first lent table at row) where
  abbrev Done : Type 0
  Done = (row ≡ first + 29 * length (entries_of (boxes_in s depth start))) × (table ≡ put lent first (rows_of (entries_of (boxes_in s depth start))))

  all_written : f.gone ≡ entries_of (boxes_in s depth start) → Done
  all_written all =
      (f.written.next ∙ ap (λ (es : List BoxEntry). first + 29 * length es) all, f.written.rows ∙ ap (λ (es : List BoxEntry). put lent first (rows_of es)) all)

  pub fill_end : step_at s depth at ≡ Ok None → Done
  fill_end h = all_written (ap entries_of (sym (all_passed f.passed h)))

  some_written : length f.gone ≤ length (entries_of (boxes_in s depth start))
  some_written = at_least (boxes_in s depth start) _ f.gone accepted f.passed.whole

  pub row_inside : row ≤ length table
  row_inside = omega (arith, some_written, f.written.next, f.written.same)

  -- no room is left for a row: all boxes are written
  pub fill_full : length table - row < 29 → Done
  fill_full h = all_written (all_there (boxes_in s depth start) _ f.gone accepted f.passed.whole (omega (arith, h, f.written.next, f.written.same)))

  pub not_refused : {X : Type 0} {r : Refusal} → step_at s depth at ≡ Err r → X
  not_refused {X} {r} h = absurd (never accepted (stops f.passed r h))

  -- it gave none
  pub fill_none : (step : Result (Option ListStep) Refusal) → step ≡ step_at s depth at → result_unwrap_or step None ≡ None → Done
  fill_none (Ok o) e n = fill_end (sym e ∙ ap Ok n)
  fill_none (Err r) e n = not_refused (sym e)

  pub plain_room : {e : BoxEntry} → step_at s depth at ≡ Ok (Some (Plain e)) → row + 29 ≤ length lent
  plain_room {e} h =
      let more = at_least (boxes_in s depth start) _ (f.gone ++ (e ∷ [])) accepted (pass_plain f.passed h).whole in
      omega (arith, more, f.written.next, length-append f.gone (e ∷ []))

  pub fill_plain : {e : BoxEntry} {next : List ℕ} → step_at s depth at ≡ Ok (Some (Plain e)) → next ≡ put table row (row_of e)
      → Filling s depth start first lent next (end_of e) (row + 29)
  fill_plain {e} h new =
      record {
        gone = f.gone ++ (e ∷ []);
        passed = pass_plain f.passed h;
        written = more_written f.written (e ∷ []) (new ∙ ap (put table row) (row_alone e)) (omega arith) (omega (arith, plain_room h));
      }

  held_by : {e : BoxEntry} → step_at s depth at ≡ Ok (Some (Superbox e)) → (l : Listing) → contents_of s e ≡ l → Accepted (contents_of s e)
  held_by {e} h (boxes es) i = i ∙ ap (λ (l : Listing). boxes (entries_of l)) (sym i)
  held_by {e} h (refused r) i = absurd (never accepted (stops_inside f.passed r h i))

  pub held_accepted : {e : BoxEntry} → step_at s depth at ≡ Ok (Some (Superbox e)) → Accepted (contents_of s e)
  held_accepted {e} h = held_by h (contents_of s e) refl

  pub superbox_room : {e : BoxEntry} → step_at s depth at ≡ Ok (Some (Superbox e)) → row + 29 + 29 * length (entries_of (contents_of s e)) ≤ length lent
  superbox_room {e} h =
      let es : List BoxEntry = entries_of (contents_of s e) in
      let more = at_least (boxes_in s depth start) _ (f.gone ++ (e ∷ es)) accepted (pass_superbox f.passed es h (held_accepted h)).whole in
      omega (arith, more, f.written.next, length-append f.gone (e ∷ es))

  pub fill_superbox : {e : BoxEntry} {one next : List ℕ} {to : ℕ} → step_at s depth at ≡ Ok (Some (Superbox e)) → one ≡ put table row (row_of e)
      → next ≡ put one (row + 29) (rows_of (entries_of (contents_of s e))) → to ≡ row + 29 + 29 * length (entries_of (contents_of s e))
      → Filling s depth start first lent next (end_of e) to
  fill_superbox {e} {one} {next} {to} h new held there =
      let es : List BoxEntry = entries_of (contents_of s e) in
      let wide = superbox_room h in
      let first-written = more_written f.written (e ∷ []) (new ∙ ap (put table row) (row_alone e)) refl (omega arith) in
      record {
        gone = f.gone ++ (e ∷ es);
        passed = pass_superbox f.passed es h (held_accepted h);
        written = rw append_assoc at (more_written first-written es held there (omega arith));
      }
