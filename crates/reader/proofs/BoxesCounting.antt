-- Counting the boxes of a list: so many were passed up to here. What a turn of the loop keeps, by what the step finds.
use Prim.Native.Nat.{ℕ, ◌+◌, ◌≤◌}
use native.Mathlib.Omega.{arith}
use mathlib.Core.Path.{◌≡◌, refl, sym, ap, ◌∙◌}
use mathlib.Core.List.{List, [], ◌∷◌, ◌++◌}
use lib.ListN.{length, length-append}
use Rattle.std.specs.Prelude.{Some, None, Ok, Err}
use Rattle.types.specs.declared.Refusal.{Refusal}
use Rattle.reader.specs.BoxRow.{end_of}
use Rattle.reader.specs.BoxStep.{step_at}
use Rattle.reader.specs.Boxes.{Listing, boxes, refused, boxes_in, contents_of, counted, entries_of}
use Rattle.reader.specs.declared.box_row.BoxEntry.{BoxEntry}
use Rattle.reader.specs.declared.box_step.ListStep.TheVariants.{Plain, Superbox}
use Rattle.reader.proofs.BoxesLaws.{Passed, none_passed, all_passed, stops, pass_plain, stops_inside, pass_superbox}

-- ---- what a count says of the listing

pub counted_boxes : (l : Listing) (n : ℕ) → counted l ≡ Ok n → (l ≡ boxes (entries_of l)) × (length (entries_of l) ≡ n)
unfolding counted
counted_boxes (boxes es) n e = (refl, cc)
counted_boxes (refused r) n e = let z : ◌≡◌ {A = ℕ} 0 1 = cc in absurd (omega arith)

pub counted_refused : (l : Listing) (r : Refusal) → counted l ≡ Err r → l ≡ refused r
unfolding counted
counted_refused (boxes es) r e = let z : ◌≡◌ {A = ℕ} 0 1 = cc in absurd (omega arith)
counted_refused (refused r') r e = ap refused cc

-- ---- the loop

pub record Counting (s : List ℕ) (depth start at count : ℕ) : Type 0 where
  pub gone : List BoxEntry
  pub passed : Passed s depth start at gone
  pub counts : count ≡ length gone

pub none_counted : (s : List ℕ) (depth start : ℕ) → Counting s depth start start 0
none_counted s depth start = record { gone = []; passed = none_passed s depth start; counts = refl }

module _ {s : List ℕ} {depth start at count : ℕ} (c : Counting s depth start at count) where
  pub count_small : count ≤ at
  count_small = omega (arith, c.counts, c.passed.few)

  pub count_end : step_at s depth at ≡ Ok None → Ok count ≡ counted (boxes_in s depth start)
  unfolding counted
  count_end h = ap Ok c.counts ∙ ap counted (sym (all_passed c.passed h))

  pub count_refused : (r : Refusal) → step_at s depth at ≡ Err r → Err r ≡ counted (boxes_in s depth start)
  unfolding counted
  count_refused r h = ap counted (sym (stops c.passed r h))

  pub count_plain : {e : BoxEntry} → step_at s depth at ≡ Ok (Some (Plain e)) → Counting s depth start (end_of e) (count + 1)
  count_plain {e} h =
      record { gone = c.gone ++ (e ∷ []); passed = pass_plain c.passed h; counts = omega (arith, c.counts, length-append c.gone (e ∷ [])) }

  pub count_stopped : {e : BoxEntry} {r : Refusal} → step_at s depth at ≡ Ok (Some (Superbox e)) → counted (contents_of s e) ≡ Err r → Err r ≡ counted (boxes_in s depth start)
  unfolding counted
  count_stopped {e} {r} h i = ap counted (sym (stops_inside c.passed r h (counted_refused (contents_of s e) r i)))

  pub count_superbox : {e : BoxEntry} {more : ℕ} → step_at s depth at ≡ Ok (Some (Superbox e)) → counted (contents_of s e) ≡ Ok more
      → Counting s depth start (end_of e) (count + 1 + more)
  count_superbox {e} {more} h i =
      let held = counted_boxes (contents_of s e) more i in
      let es : List BoxEntry = entries_of (contents_of s e) in
      record {
        gone = c.gone ++ (e ∷ es);
        passed = pass_superbox c.passed es h held.0;
        counts = omega (arith, c.counts, length-append c.gone (e ∷ es), held.1);
      }
