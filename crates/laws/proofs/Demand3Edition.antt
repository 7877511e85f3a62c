-- The newer edition over an assembled codestream. Its walk meets the CAP segments that the other walk met, one for one, and each fits its bits where it did
-- before; and Rsiz, which announces them, stays. So the newer edition accepts it where it accepts the other.
use Prim.Native.Nat.{ℕ, ◌+◌, ◌≤◌}
use native.Mathlib.Nat.{add_assoc}
use native.Mathlib.Omega.{arith}
use mathlib.Core.Path.{◌≡◌, refl, sym, ap, ◌∙◌}
use mathlib.Core.Bool.{Bool, true, false}
use mathlib.Core.List.{List, [], ◌∷◌, ◌++◌}
use lib.ListN.{length}
use lib.Seq.{get_or-append-add}
use lib.Dec.{eqb}
use borrow.Author.Tests.{eq-eqb, ne_eqb}
use Rattle.std.specs.Prelude.{Ok}
use Rattle.numbers.specs.Bits.{bit}
use Rattle.numbers.specs.Bytes.{be}
use Rattle.numbers.proofs.BytesLaws.{be_cong}
use Rattle.numbers.proofs.Choice.{by_bool}
use Rattle.types.specs.Markers.{CAP}
use Rattle.chain.specs.Chain.{Visit}
use Rattle.header.specs.Step.{delimits, segment_end}
use Rattle.header.specs.Edition.{announced, caps_in, lcap, pcap, cap_fits, capped}
use Rattle.header.specs.Reading.{newer_by}
use Rattle.header.specs.Parse.{judged_by, judged_as}
use Rattle.header.specs.declared.numbering.Numbering.{Numbering}
use Rattle.header.specs.declared.parse.MainHeaderInfo.{MainHeaderInfo}
use Rattle.header.proofs.EditionLaws.{fits_short, caps_from, cap_no_delimiter, as_accepted, as_newer}
use Rattle.header.proofs.NumberingLaws.{refused_header}
use Rattle.header.proofs.WalkLaws.{not_true_false}
use Rattle.header.proofs.WalkItems.{Item, delimiter, segment}
use Rattle.laws.proofs.Demand3Items.{piece, Field, by_marker, in_visited, by_lt, length_again}

-- ---- the same CAP segments

-- by where they stand in each
pub data SameCaps (s a : List ℕ) : List ℕ → List ℕ → Type 0 where
  none : SameCaps s a [] []
  more : {at to : ℕ} {caps there : List ℕ} → cap_fits a to ≡ cap_fits s at → SameCaps s a caps there → SameCaps s a (at ∷ caps) (to ∷ there)

module _ (s : List ℕ) (v : Visit) (visits : List Visit) where
  cap_here : be 2 s v.at ≡ CAP → caps_in s (v ∷ visits) ≡ v.at ∷ caps_in s visits
  unfolding caps_in
  cap_here e = rw (eq-eqb _ _ e)

  pub cap_later : (be 2 s v.at ≡ CAP → ⊥) → caps_in s (v ∷ visits) ≡ caps_in s visits
  unfolding caps_in
  cap_later n = rw (ne_eqb _ _ n)

-- one item more, with the same marker in each
pub caps_on : (s a : List ℕ) (v w : Visit) (visits there : List Visit) → be 2 a w.at ≡ be 2 s v.at
    → (be 2 s v.at ≡ CAP → cap_fits a w.at ≡ cap_fits s v.at) → SameCaps s a (caps_in s visits) (caps_in a there)
    → SameCaps s a (caps_in s (v ∷ visits)) (caps_in a (w ∷ there))
caps_on s a v w visits there same fits rest =
    by_marker s v.at CAP
    (λ is. rw (cap_here s v visits is, cap_here a w there (same ∙ is)) (more (fits is) rest))
    (λ other. rw (cap_later s v visits other, cap_later a w there (λ is. other (sym same ∙ is))) rest)

-- ---- a CAP segment behind any front

cap_ends : (s : List ℕ) (at next : ℕ) → be 2 s at ≡ CAP → Item s at next → next ≡ segment_end s at
cap_ends s at next m (delimiter d n) = absurd (not_true_false (sym d ∙ ap delimits m ∙ cap_no_delimiter))
cap_ends s at next m (segment sot d room n) = n

module _ (s : List ℕ) (at next : ℕ) (is : be 2 s at ≡ CAP) (i : Item s at next) (inside : next ≤ length s) (front y : List ℕ) where
  -- Pcap lies inside where Lcap is 6 or more
  pcap_again : 6 ≤ lcap s at → pcap (front ++ (piece s at next ++ y)) (length front) ≡ pcap s at
  unfolding segment_end
  pcap_again six =
      let n = cap_ends s at next is i in
      be_cong 4 _ _ _ _
      (λ j l.
      rw (add_assoc (length front) 4 j, add_assoc at 4 j)
      (get_or-append-add front (piece s at next ++ y) (4 + j) 0 ∙ in_visited s at next y inside (4 + j) (omega arith)))

  pub fits_again : (next ≡ segment_end s at → Field s at (piece s at next ++ y)) → cap_fits (front ++ (piece s at next ++ y)) (length front) ≡ cap_fits s at
  unfolding cap_fits
  fits_again read =
      let l = length_again s at front (piece s at next ++ y) (read (cap_ends s at next is i)) in
      by_lt 6 (lcap s at)
      (λ six. rw (l, pcap_again six))
      (λ short. fits_short _ _ (omega arith) ∙ sym (fits_short s at short))

-- ---- accepted in the newer edition

capped_same : (wanted : Bool) (s a : List ℕ) {caps there : List ℕ} (h k : MainHeaderInfo) → SameCaps s a caps there → capped wanted s caps h ≡ Ok h
    → capped wanted a there k ≡ Ok k
unfolding capped
capped_same true s a h k none e = absurd (refused_header e)
capped_same true s a h k (more {at = at} f none) e = by_bool (cap_fits s at) (λ t. rw (f ∙ t)) (λ t. absurd (refused_header (rw t at e)))
capped_same true s a h k (more f (more g rest)) e = absurd (refused_header e)
capped_same false s a h k none e = refl
capped_same false s a h k (more f rest) e = absurd (refused_header e)

pub newer_same : (s a : List ℕ) (n : Numbering) (h k : MainHeaderInfo) → be 2 a 6 ≡ be 2 s 6 → SameCaps s a (caps_from s 2) (caps_from a 2)
    → judged_by n a ≡ Ok k → judged_as (newer_by n) s ≡ Ok h → judged_as (newer_by n) a ≡ Ok k
unfolding announced
newer_same s a n h k rsiz caps judged accepted =
    as_newer (newer_by n) a refl k judged
    ∙ ap (λ (r : ℕ). capped (eqb (bit 14 r) 1) a (caps_from a 2) k) rsiz
    ∙ capped_same (announced s) s a h k caps (sym (as_newer (newer_by n) s refl h (as_accepted (newer_by n) s h accepted)) ∙ accepted)
