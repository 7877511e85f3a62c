-- Lists of boxes: the count does not matter; the four equations; there are no more boxes than bytes.
use Prim.Native.Nat.{ℕ, zero, suc, ◌+◌, ◌-◌, ◌≤◌, ◌<◌}
use native.Mathlib.Omega.{arith}
use mathlib.Core.Path.{◌≡◌, refl, sym, ap, ap₂, ◌∙◌}
use mathlib.Core.List.{List, [], ◌∷◌, ◌++◌, append_assoc, append-nil}
use lib.ListN.{length, take, length-take, length-append}
use Rattle.types.specs.declared.Refusal.{Refusal}
use Rattle.std.specs.Prelude.{Option, Some, None, Result, Ok, Err}
use Rattle.reader.specs.BoxRow.{end_of}
use Rattle.reader.specs.BoxStep.{step_at}
use Rattle.reader.specs.Boxes.{Listing, boxes, refused, before, then, on_step, list_from, superbox, boxes_in, contents_of, entries_of}
use Rattle.reader.specs.declared.box_row.BoxEntry.{BoxEntry}
use Rattle.reader.specs.declared.box_step.ListStep.{ListStep}
use Rattle.reader.specs.declared.box_step.ListStep.TheVariants.{Plain, Superbox}
use Rattle.reader.proofs.BoxStepLaws.{plain_stands, superbox_stands}

-- ---- one turn, by what the step finds

module _ (n : ℕ) (s : List ℕ) (depth at : ℕ) where
  turn : (x : Result (Option ListStep) Refusal) → step_at s depth at ≡ x → list_from (suc n) s depth at ≡ on_step x (λ e. superbox n s e) (λ to. list_from n s depth to)
  unfolding list_from
  turn x e = ap (λ (y : Result (Option ListStep) Refusal). on_step y (λ e. superbox n s e) (λ to. list_from n s depth to)) e

  list_end : step_at s depth at ≡ Ok None → list_from (suc n) s depth at ≡ boxes []
  unfolding on_step
  list_end e = turn (Ok None) e

  list_refused : (r : Refusal) → step_at s depth at ≡ Err r → list_from (suc n) s depth at ≡ refused r
  unfolding on_step
  list_refused r e = turn (Err r) e

  list_plain : (e : BoxEntry) → step_at s depth at ≡ Ok (Some (Plain e)) → list_from (suc n) s depth at ≡ before (e ∷ []) (list_from n s depth (end_of e))
  unfolding on_step
  list_plain e h = turn (Ok (Some (Plain e))) h

  list_superbox : (e : BoxEntry) → step_at s depth at ≡ Ok (Some (Superbox e))
      → list_from (suc n) s depth at ≡ before (e ∷ []) (then (superbox n s e) (list_from n s depth (end_of e)))
  unfolding on_step
  list_superbox e h = turn (Ok (Some (Superbox e))) h

-- ---- the count does not matter once it is large enough

-- any two counts give the same, where fewer bytes than the bound are left
abbrev Same : ℕ → Type 0
Same bound = (n m : ℕ) (s : List ℕ) (depth at : ℕ) → length s - at < bound → length s - at < n → length s - at < m → list_from n s depth at ≡ list_from m s depth at

part_left : (s : List ℕ) (e : BoxEntry) → end_of e ≤ length s → length (take (end_of e) s) - e.content.0 ≡ e.length
part_left s e h = rw (length-take) (omega arith)

superbox_is : (n : ℕ) (s : List ℕ) (e : BoxEntry) → superbox (suc n) s e ≡ list_from n (take (end_of e) s) (e.depth + 1) e.content.0
unfolding list_from
superbox_is n s e = refl

same_held : (bound : ℕ) → Same bound → (n m : ℕ) (s : List ℕ) (e : BoxEntry) → end_of e ≤ length s → e.length < bound → e.length + 1 < n → e.length + 1 < m
    → superbox n s e ≡ superbox m s e
same_held bound more zero m s e i b hn hm = absurd (omega arith)
same_held bound more (suc n) zero s e i b hn hm = absurd (omega arith)
same_held bound more (suc n) (suc m) s e i b hn hm =
    let left = part_left s e i in
    superbox_is n s e ∙ more n m (take (end_of e) s) (e.depth + 1) e.content.0 (omega arith) (omega arith) (omega arith) ∙ sym (superbox_is m s e)

same_turn : (bound : ℕ) → Same bound → (n m : ℕ) (s : List ℕ) (depth at : ℕ) → length s - at < suc bound → length s - at < suc n → length s - at < suc m
    → (x : Result (Option ListStep) Refusal) → step_at s depth at ≡ x → list_from (suc n) s depth at ≡ list_from (suc m) s depth at
same_turn bound more n m s depth at b hn hm (Ok None) e = list_end n s depth at e ∙ sym (list_end m s depth at e)
same_turn bound more n m s depth at b hn hm (Err r) e = list_refused n s depth at r e ∙ sym (list_refused m s depth at r e)
same_turn bound more n m s depth at b hn hm (Ok (Some (Plain x))) e =
    let h = plain_stands e in
    list_plain n s depth at x e
    ∙ ap (before (x ∷ [])) (more n m s depth (end_of x) (omega arith) (omega arith) (omega arith))
    ∙ sym (list_plain m s depth at x e)
same_turn bound more n m s depth at b hn hm (Ok (Some (Superbox x))) e =
    let h = (superbox_stands e).0 in
    list_superbox n s depth at x e
    ∙ ap (before (x ∷ []))
    (ap₂ then (same_held bound more n m s x h.inside (omega arith) (omega arith) (omega arith)) (more n m s depth (end_of x) (omega arith) (omega arith) (omega arith)))
    ∙ sym (list_superbox m s depth at x e)

same_count : (bound : ℕ) → Same bound
same_count zero n m s depth at b hn hm = absurd (omega arith)
same_count (suc bound) zero m s depth at b hn hm = absurd (omega arith)
same_count (suc bound) (suc n) zero s depth at b hn hm = absurd (omega arith)
same_count (suc bound) (suc n) (suc m) s depth at b hn hm =
    same_turn bound (λ n m s depth at. same_count bound n m s depth at) n m s depth at b hn hm (step_at s depth at) refl

enough : (n : ℕ) (s : List ℕ) (depth at : ℕ) → length s - at < n → list_from n s depth at ≡ boxes_in s depth at
unfolding boxes_in
enough n s depth at h = same_count (suc (length s - at)) n (suc (length s - at)) s depth at (omega arith) h (omega arith)

-- ---- the four equations of a list of boxes

module _ (s : List ℕ) (depth at : ℕ) where
  opened : boxes_in s depth at ≡ list_from (suc (length s - at)) s depth at
  unfolding boxes_in
  opened = refl

  pub boxes_end : step_at s depth at ≡ Ok None → boxes_in s depth at ≡ boxes []
  boxes_end e = opened ∙ list_end (length s - at) s depth at e

  pub boxes_refused : (r : Refusal) → step_at s depth at ≡ Err r → boxes_in s depth at ≡ refused r
  boxes_refused r e = opened ∙ list_refused (length s - at) s depth at r e

  pub boxes_plain : (e : BoxEntry) → step_at s depth at ≡ Ok (Some (Plain e)) → boxes_in s depth at ≡ before (e ∷ []) (boxes_in s depth (end_of e))
  boxes_plain e h =
      let p = plain_stands h in
      opened ∙ list_plain (length s - at) s depth at e h ∙ ap (before (e ∷ [])) (enough (length s - at) s depth (end_of e) (omega arith))

  held : (n : ℕ) (e : BoxEntry) → end_of e ≤ length s → e.length + 1 < n → superbox n s e ≡ contents_of s e
  held zero e i h = absurd (omega arith)
  held (suc n) e i h = superbox_is n s e ∙ enough n _ _ _ (let left = part_left s e i in omega arith)

  pub boxes_superbox : (e : BoxEntry) → step_at s depth at ≡ Ok (Some (Superbox e))
      → boxes_in s depth at ≡ before (e ∷ []) (then (contents_of s e) (boxes_in s depth (end_of e)))
  boxes_superbox e h =
      let p = (superbox_stands h).0 in
      opened
      ∙ list_superbox (length s - at) s depth at e h
      ∙ ap (before (e ∷ [])) (ap₂ then (held (length s - at) e p.inside (omega arith)) (enough (length s - at) s depth (end_of e) (omega arith)))

-- ---- there are no more boxes than bytes

length_before : (es : List BoxEntry) (l : Listing) → length (entries_of (before es l)) ≤ length es + length (entries_of l)
unfolding before
length_before es (boxes rest) = omega (arith, length-append es rest)
length_before es (refused r) = omega arith

length_then : (a b : Listing) → length (entries_of (then a b)) ≤ length (entries_of a) + length (entries_of b)
unfolding then
length_then (boxes es) b = length_before es b
length_then (refused r) b = omega arith

abbrev Few : ℕ → Type 0
Few bound = (s : List ℕ) (depth at : ℕ) → length s - at < bound → length (entries_of (boxes_in s depth at)) ≤ length s - at

few_turn : (bound : ℕ) → Few bound → (s : List ℕ) (depth at : ℕ) → length s - at < suc bound → (x : Result (Option ListStep) Refusal) → step_at s depth at ≡ x
    → length (entries_of (boxes_in s depth at)) ≤ length s - at
few_turn bound more s depth at b (Ok None) e = rw (boxes_end s depth at e) (omega arith)
few_turn bound more s depth at b (Err r) e = rw (boxes_refused s depth at r e) (omega arith)
few_turn bound more s depth at b (Ok (Some (Plain x))) e =
    let p = plain_stands e in
    rw (boxes_plain s depth at x e)
    (omega (arith, length_before (x ∷ []) (boxes_in s depth (end_of x)), more s depth (end_of x) (omega arith)))
few_turn bound more s depth at b (Ok (Some (Superbox x))) e =
    let p = (superbox_stands e).0 in
    let left = part_left s x p.inside in
    rw (boxes_superbox s depth at x e)
    (omega (
      arith,
      length_before (x ∷ []) (then (contents_of s x) (boxes_in s depth (end_of x))),
      length_then (contents_of s x) (boxes_in s depth (end_of x)),
      more s depth (end_of x) (omega arith),
      more (take (end_of x) s) (x.depth + 1) x.content.0 (omega arith),
    ))

few_below : (bound : ℕ) → Few bound
few_below zero s depth at b = absurd (omega arith)
few_below (suc bound) s depth at b = few_turn bound (λ s depth at. few_below bound s depth at) s depth at b (step_at s depth at) refl

pub few_boxes : (s : List ℕ) (depth at : ℕ) → length (entries_of (boxes_in s depth at)) ≤ length s - at
few_boxes s depth at = few_below (suc (length s - at)) s depth at (omega arith)

pub few_held : (s : List ℕ) (e : BoxEntry) (es : List BoxEntry) → end_of e ≤ length s → contents_of s e ≡ boxes es → length es ≤ e.length
few_held s e es h is =
    let left = part_left s e h in
    omega (arith, few_boxes (take (end_of e) s) (e.depth + 1) e.content.0, ap (λ (l : Listing). length (entries_of l)) is)

-- ---- a walk along a list: what was passed stands before what is left

pub before_none : (l : Listing) → l ≡ before [] l
unfolding before
before_none (boxes es) = refl
before_none (refused r) = refl

before_twice : (xs ys : List BoxEntry) (l : Listing) → before xs (before ys l) ≡ before (xs ++ ys) l
unfolding before
before_twice xs ys (boxes es) = ap boxes (sym (append_assoc xs ys es))
before_twice xs ys (refused r) = refl

then_more : (e : BoxEntry) (es : List BoxEntry) (l : Listing) → before (e ∷ []) (then (boxes es) l) ≡ before (e ∷ es) l
unfolding then
then_more e es l = before_twice (e ∷ []) es l

-- the boxes passed from the start to here, no more than bytes
pub record Passed (s : List ℕ) (depth start at : ℕ) (gone : List BoxEntry) : Type 0 where
  pub few : length gone ≤ at
  pub whole : boxes_in s depth start ≡ before gone (boxes_in s depth at)

pub none_passed : (s : List ℕ) (depth start : ℕ) → Passed s depth start start []
none_passed s depth start = record { few = omega arith; whole = before_none _ }

module _ {s : List ℕ} {depth start at : ℕ} {gone : List BoxEntry} (p : Passed s depth start at gone) where
  pub all_passed : step_at s depth at ≡ Ok None → boxes_in s depth start ≡ boxes gone
  unfolding before
  all_passed h = p.whole ∙ ap (before gone) (boxes_end s depth at h) ∙ ap boxes (append-nil gone)

  pub stops : (r : Refusal) → step_at s depth at ≡ Err r → boxes_in s depth start ≡ refused r
  unfolding before
  stops r h = p.whole ∙ ap (before gone) (boxes_refused s depth at r h)

  pub pass_plain : {e : BoxEntry} → step_at s depth at ≡ Ok (Some (Plain e)) → Passed s depth start (end_of e) (gone ++ (e ∷ []))
  pass_plain {e} h =
      let b = plain_stands h in
      record {
        few = omega (arith, length-append gone (e ∷ []), p.few);
        whole = p.whole ∙ ap (before gone) (boxes_plain s depth at e h) ∙ before_twice gone (e ∷ []) _;
      }

  pub stops_inside : {e : BoxEntry} (r : Refusal) → step_at s depth at ≡ Ok (Some (Superbox e)) → contents_of s e ≡ refused r → boxes_in s depth start ≡ refused r
  unfolding then before
  stops_inside {e} r h i =
      p.whole ∙ ap (before gone) (boxes_superbox s depth at e h) ∙ ap (λ (l : Listing). before gone (before (e ∷ []) (then l (boxes_in s depth (end_of e))))) i

  pub pass_superbox : {e : BoxEntry} (es : List BoxEntry) → step_at s depth at ≡ Ok (Some (Superbox e)) → contents_of s e ≡ boxes es
      → Passed s depth start (end_of e) (gone ++ (e ∷ es))
  pass_superbox {e} es h i =
      let b = (superbox_stands h).0 in
      record {
        few = omega (arith, length-append gone (e ∷ es), p.few, few_held s e es b.inside i);
        whole =
            p.whole
            ∙ ap (before gone) (boxes_superbox s depth at e h ∙ ap (λ (l : Listing). before (e ∷ []) (then l (boxes_in s depth (end_of e)))) i ∙ then_more e es _)
            ∙ before_twice gone (e ∷ es) _;
      }
