-- An accepted list, step by step: a law on the boxes that are listed goes over its steps, and not over bytes.
use Prim.Native.Nat.{ℕ, zero, suc, ◌+◌, ◌-◌, ◌<◌}
use native.Mathlib.Omega.{arith}
use mathlib.Core.Path.{◌≡◌, refl, sym, ◌∙◌}
use mathlib.Core.List.{List, [], ◌∷◌, ◌++◌}
use lib.ListN.{length, take}
use lib.Seq.{length-take-le}
use Rattle.std.specs.Prelude.{Option, Some, None, Result, Ok, Err}
use Rattle.types.specs.declared.Refusal.{Refusal}
use Rattle.reader.specs.BoxRow.{end_of}
use Rattle.reader.specs.BoxStep.{step_at}
use Rattle.reader.specs.Boxes.{Listing, boxes, refused, before, then, boxes_in, contents_of}
use Rattle.reader.specs.declared.box_row.BoxEntry.{BoxEntry}
use Rattle.reader.specs.declared.box_step.ListStep.{ListStep}
use Rattle.reader.specs.declared.box_step.ListStep.TheVariants.{Plain, Superbox}
use Rattle.reader.proofs.BoxStepLaws.{plain_stands, superbox_stands}
use Rattle.reader.proofs.BoxesLaws.{boxes_end, boxes_refused, boxes_plain, boxes_superbox}

-- the steps of the list that fills s, at a depth, from a position on
pub data Walk : List ℕ → ℕ → ℕ → List BoxEntry → Type 0 where
  done : {s : List ℕ} {depth at : ℕ} → step_at s depth at ≡ Ok None → Walk s depth at []
  past : {s : List ℕ} {depth at : ℕ} {e : BoxEntry} {rest : List BoxEntry} → step_at s depth at ≡ Ok (Some (Plain e)) → Walk s depth (end_of e) rest → Walk s depth at (e ∷ rest)
  into : {s : List ℕ} {depth at : ℕ} {e : BoxEntry} {held rest : List BoxEntry} → step_at s depth at ≡ Ok (Some (Superbox e))
      → Walk (take (end_of e) s) (e.depth + 1) e.content.0 held
      → Walk s depth (end_of e) rest → Walk s depth at (e ∷ (held ++ rest))

-- what an accepted listing is made of
record Parts (es : List BoxEntry) (l : Listing) (all : List BoxEntry) : Type 0 where
  rest : List BoxEntry
  is : l ≡ boxes rest
  joined : all ≡ es ++ rest

parts : (es : List BoxEntry) (l : Listing) (all : List BoxEntry) → before es l ≡ boxes all → Parts es l all
unfolding before
parts es (boxes rest) all e = record { rest = rest; is = refl; joined = cc }
parts es (refused r) all e = let z : ◌≡◌ {A = ℕ} 0 1 = cc in absurd (omega arith)

then_parts : (a b : Listing) (all : List BoxEntry) → then a b ≡ boxes all → (es : List BoxEntry) × (a ≡ boxes es) × Parts es b all
unfolding then
then_parts (boxes es) b all e = (es, refl, parts es b all e)
then_parts (refused r) b all e = let z : ◌≡◌ {A = ℕ} 0 1 = cc in absurd (omega arith)

abbrev Walked : ℕ → Type 0
Walked bound = (s : List ℕ) (depth at : ℕ) (es : List BoxEntry) → length s - at < bound → boxes_in s depth at ≡ boxes es → Walk s depth at es

turn : (bound : ℕ) → Walked bound → (s : List ℕ) (depth at : ℕ) (es : List BoxEntry) → length s - at < suc bound → boxes_in s depth at ≡ boxes es
    → (x : Result (Option ListStep) Refusal) → step_at s depth at ≡ x → Walk s depth at es
turn bound more s depth at es b e (Ok None) h = let empty : es ≡ [] = cc (boxes_end s depth at h) in rw empty (done h)
turn bound more s depth at es b e (Err r) h = let z : ◌≡◌ {A = ℕ} 0 1 = cc (boxes_refused s depth at r h) in absurd (omega arith)
turn bound more s depth at es b e (Ok (Some (Plain x))) h =
    let p = plain_stands h in
    let l = parts (x ∷ []) (boxes_in s depth (end_of x)) es (sym (boxes_plain s depth at x h) ∙ e) in
    rw l.joined (past h (more s depth (end_of x) l.rest (omega arith) l.is))
turn bound more s depth at es b e (Ok (Some (Superbox x))) h =
    let p = (superbox_stands h).0 in
    let l = parts (x ∷ []) (then (contents_of s x) (boxes_in s depth (end_of x))) es (sym (boxes_superbox s depth at x h) ∙ e) in
    let m = then_parts (contents_of s x) (boxes_in s depth (end_of x)) l.rest l.is in
    let long = length-take-le (end_of x) s p.inside in
    rw (l.joined, m.2.joined)
    (into h (more (take (end_of x) s) (x.depth + 1) x.content.0 m.0 (omega arith) m.1) (more s depth (end_of x) m.2.rest (omega arith) m.2.is))

walked : (bound : ℕ) → Walked bound
walked zero s depth at es b e = absurd (omega arith)
walked (suc bound) s depth at es b e = turn bound (λ s depth at. walked bound s depth at) s depth at es b e (step_at s depth at) refl

pub walk : (s : List ℕ) (depth at : ℕ) (es : List BoxEntry) → boxes_in s depth at ≡ boxes es → Walk s depth at es
walk s depth at es e = walked (suc (length s - at)) s depth at es (omega arith) e
