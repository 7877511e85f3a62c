-- An item of a main header, a delimiter or a segment, behind any front: the same is read again. A length of 0 or 1 has its field in the next item,
-- which then is no TLM and no SOT, so it is kept and stands there too.
use Prim.Native.Nat.{ℕ, ◌+◌, ◌-◌, ◌*◌, ◌≤◌, ◌<◌}
use native.Mathlib.Nat.{add-zero, add_assoc}
use native.Mathlib.Omega.{arith}
use mathlib.Core.Path.{◌≡◌, refl, ap, ◌∙◌}
use mathlib.Core.Bool.{Bool, true, false}
use mathlib.Core.List.{List, ◌∷◌, ◌++◌}
use lib.ListN.{length, get_or, take, drop, length-append, get_or-append}
use lib.Seq.{get_or-append-add, get_or-take, get_or-drop}
use lib.Dec.{leb, eqb}
use borrow.Author.Tests.{eq-eqb, ne_eqb, leb-true, leb-false, eqb-true, eqb-false}
use Rattle.numbers.specs.Bytes.{be}
use Rattle.numbers.proofs.BytesLaws.{be_cong}
use Rattle.types.specs.Markers.{TLM, SOT}
use Rattle.chain.specs.Chain.{on, Visit, Run, stay, step}
use Rattle.header.specs.Step.{segment_end}
use Rattle.header.specs.Walk.{walk_at}
use Rattle.header.specs.Strip.{kept}
use Rattle.header.proofs.WalkVisited.{length_visited}
use Rattle.header.proofs.WalkItems.{Item, item, item_long, passes_again}
use Rattle.laws.specs.Demand3.{AllBytes}

-- ---- what is kept

module _ (s : List ℕ) (at next : ℕ) (rest : List Visit) where
  pub kept_tlm : be 2 s at ≡ TLM → kept s (record { at = at; next = next } ∷ rest) ≡ kept s rest
  unfolding kept
  kept_tlm e = rw (eq-eqb _ _ e)

  pub kept_other : (be 2 s at ≡ TLM → ⊥) → kept s (record { at = at; next = next } ∷ rest) ≡ take (next - at) (drop at s) ++ kept s rest
  unfolding kept
  kept_other n = rw (ne_eqb _ _ n)

pub by_marker : {X : Type 0} (s : List ℕ) (at marker : ℕ) → (be 2 s at ≡ marker → X) → ((be 2 s at ≡ marker → ⊥) → X) → X
by_marker {X} s at marker f g = by (eqb (be 2 s at) marker) refl
  where
    by : (b : Bool) → eqb (be 2 s at) marker ≡ b → X
    by true e = f (eqb-true _ _ e)
    by false e = g (eqb-false _ _ e)

-- a byte of what was passed
pub in_visited : (s : List ℕ) (at next : ℕ) (y : List ℕ) → next ≤ length s → (i : ℕ) → at + i < next
    → get_or (take (next - at) (drop at s) ++ y) i 0 ≡ get_or s (at + i) 0
in_visited s at next y h i l =
    get_or-append (take (next - at) (drop at s)) y 0 i (omega (arith, length_visited s at next h))
    ∙ get_or-take (next - at) (drop at s) i 0 (omega arith)
    ∙ get_or-drop at s i 0

-- where neither SOT nor TLM stands, what is kept from there on begins with the two bytes there
record Agrees (s : List ℕ) (at : ℕ) (k : List ℕ) : Type 0 where
  long : 2 ≤ length k
  same : (i : ℕ) → i < 2 → get_or k i 0 ≡ get_or s (at + i) 0

agrees : (s : List ℕ) {at stop : ℕ} {visits : List Visit} → Run (walk_at s) at visits stop → be 2 s stop ≡ SOT
    → (be 2 s at ≡ SOT → ⊥) → (be 2 s at ≡ TLM → ⊥) → Agrees s at (kept s visits)
agrees s stay m sot tlm = absurd (sot m)
agrees s (step {at = at} {next = next} {rest = visits} found past run) m sot tlm =
    let i = item s at next found in
    let two = item_long i.0 in
    rw (kept_other s at next visits tlm)
    (record {
      long = simp length-append (omega (arith, length_visited s at next i.1));
      same = λ j l. in_visited s at next (kept s visits) i.1 j (omega arith);
    })

-- ---- one item, and what is kept after it

-- the two bytes of a length field, by their bytes
be_two : (s : List ℕ) (at : ℕ) → be 2 s at ≡ get_or s at 0 * 256 + get_or s (at + 1) 0
unfolding be
be_two s at = rw add-zero (omega arith)

-- a length of 0 or 1: its field reaches into the next item, whose marker then is below 512
next_low : (s : List ℕ) → AllBytes s → (at next : ℕ) → next ≡ segment_end s at → be 2 s (at + 2) < 2 → be 2 s next < 512
unfolding segment_end
next_low s bytes at next n short = by (eqb (be 2 s (at + 2)) 0) refl
  where
    by : (b : Bool) → eqb (be 2 s (at + 2)) 0 ≡ b → be 2 s next < 512
    by true e =
        let z = eqb-true (be 2 s (at + 2)) 0 e in
        let there : next ≡ at + 2 = omega arith in
        omega (arith, ap (be 2 s) there)
    by false e =
        let one = eqb-false (be 2 s (at + 2)) 0 e in
        let l : be 2 s (at + 2) ≡ 1 = omega arith in
        let there : next ≡ at + 2 + 1 = omega arith in
        omega (arith, be_two s next, be_two s (at + 2), ap (λ (i : ℕ). get_or s i 0) there, bytes (next + 1))

-- the marker and the length of a segment
pub record Field (s : List ℕ) (at : ℕ) (x : List ℕ) : Type 0 where
  pub long : 4 ≤ length x
  pub same : (i : ℕ) → i < 4 → get_or x i 0 ≡ get_or s (at + i) 0

abbrev pub piece : List ℕ → ℕ → ℕ → List ℕ
piece s at next = take (next - at) (drop at s)

-- a byte past what was passed
past_visited : (s : List ℕ) (at next : ℕ) (k rest : List ℕ) → next ≤ length s → at ≤ next → Agrees s next k → (i : ℕ) → next ≤ at + i → i < next - at + 2
    → get_or (piece s at next ++ (k ++ rest)) i 0 ≡ get_or s (at + i) 0
past_visited s at next k rest inside order g i l m =
    let here : List ℕ = piece s at next in
    let n : length here ≡ next - at = length_visited s at next inside in
    let long = g.long in
    let split : i ≡ length here + (i - length here) = omega arith in
    let there : next + (i - length here) ≡ at + i = omega arith in
    ap (λ (j : ℕ). get_or (here ++ (k ++ rest)) j 0) split
    ∙ get_or-append-add here (k ++ rest) (i - length here) 0
    ∙ get_or-append k rest 0 (i - length here) (omega arith)
    ∙ g.same (i - length here) (omega arith)
    ∙ ap (λ (j : ℕ). get_or s j 0) there

pub by_lt : {X : Type 0} (a b : ℕ) → (a ≤ b → X) → (b < a → X) → X
by_lt {X} a b f g = by (leb a b) refl
  where
    by : (t : Bool) → leb a b ≡ t → X
    by true e = f (leb-true a b e)
    by false e = g (leb-false a b e)

module _ (s : List ℕ) (bytes : AllBytes s) (at next : ℕ) {stop : ℕ} {visits : List Visit} (run : Run (walk_at s) next visits stop) (ends : be 2 s stop ≡ SOT)
    (inside : next ≤ length s) (n : next ≡ segment_end s at) (rest : List ℕ) where
  pub field : Field s at (piece s at next ++ (kept s visits ++ rest))
  unfolding segment_end
  field =
      let size : length (piece s at next) ≡ next - at = length_visited s at next inside in
      let total : length (piece s at next ++ (kept s visits ++ rest)) ≡ next - at + (length (kept s visits) + length rest) = simp length-append (omega arith) in
      let within = in_visited s at next (kept s visits ++ rest) inside in
      by_lt 2 (be 2 s (at + 2))
      (λ two. record { long = omega arith; same = λ i l. within i (omega arith) })
      (λ short.
      let low = next_low s bytes at next n short in
      let g = agrees s run ends (λ m. omega arith) (λ m. omega arith) in
      let long = g.long in
      record {
        long = omega arith;
        same = λ i l. by_lt (at + i + 1) next (λ h. within i (omega arith)) (λ h. past_visited s at next (kept s visits) rest inside (omega arith) g i (omega arith) (omega arith));
      })

-- an item behind any front: its marker is read again,
pub marker_again : (s : List ℕ) (at next : ℕ) → Item s at next → next ≤ length s → (front y : List ℕ) → be 2 (front ++ (piece s at next ++ y)) (length front) ≡ be 2 s at
marker_again s at next i inside front y =
    let two = item_long i in
    be_cong 2 _ _ _ _ (λ j l. get_or-append-add front (piece s at next ++ y) j 0 ∙ in_visited s at next y inside j (omega arith))

-- so is its length,
pub length_again : (s : List ℕ) (at : ℕ) (front x : List ℕ) → Field s at x → be 2 (front ++ x) (length front + 2) ≡ be 2 s (at + 2)
length_again s at front x f =
    be_cong 2 _ _ _ _ (λ j l. rw (add_assoc (length front) 2 j, add_assoc at 2 j) (get_or-append-add front x (2 + j) 0 ∙ f.same (2 + j) (omega arith)))

-- and it is passed
pub pass_again : (s : List ℕ) (at next : ℕ) → Item s at next → next ≤ length s → (be 2 s at ≡ TLM → ⊥) → (front y : List ℕ)
    → (next ≡ segment_end s at → Field s at (piece s at next ++ y))
    → walk_at (front ++ (piece s at next ++ y)) (length front) ≡ on (length front + (next - at))
pass_again s at next i inside other front y stands =
    let x : List ℕ = piece s at next ++ y in
    let two = item_long i in
    let size : length (front ++ x) ≡ length front + (next - at + length y) = simp length-append (omega (arith, length_visited s at next inside)) in
    passes_again s at next (front ++ x) (length front) i other (marker_again s at next i inside front y)
    (λ n.
    let f = stands n in
    let long = f.long in
    (length_again s at front x f, omega (arith, length-append front x)))
    (omega arith)
