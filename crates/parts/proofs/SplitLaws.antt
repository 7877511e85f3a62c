-- The split's step opened once: a law for each case, and that a part goes forward inside the buffer. So the laws of a chain hold of it, and
-- no part is empty.
use Prim.Native.Nat.{ℕ, zero, suc, ◌+◌, ◌-◌, ◌≤◌, ◌<◌}
use native.Mathlib.Omega.{arith}
use mathlib.Core.Path.{◌≡◌, refl, sym, ap, ap₂, ◌∙◌}
use mathlib.Core.Bool.{cond}
use mathlib.Core.List.{List, [], ◌∷◌, map}
use lib.ListN.{length, get_or, take, drop, length-take, length-drop}
use lib.Dec.{leb, eqb}
use borrow.Author.Tests.{le-leb, lt-leb, eq-eqb, ne_eqb, leb-true, eqb-false}
use Rattle.std.specs.Prelude.{Option, Some, None}
use Rattle.numbers.specs.Bytes.{be}
use Rattle.types.specs.Markers.{SOT}
use Rattle.chain.specs.Chain.{on, Visit, Chain, Rises, also, Run, stay, step, visited}
use Rattle.chain.proofs.ChainLaws.{chain_end, chain_on, chain_run}
use Rattle.parts.specs.Sot.{psot}
use Rattle.parts.specs.Split.{part_end, split_step_at, SplitEnd, ended, move_of, move_at, split_from, parts_from, parts_of, found, standing}
use Rattle.numbers.proofs.Choice.{by_test}
use Rattle.chain.proofs.ChainLaws.{end_on}

-- ---- the step, case by case

module _ (s : List ℕ) (at : ℕ) where
  pub step_few : length s < at + 12 → split_step_at s at ≡ None
  unfolding split_step_at
  step_few h = rw (lt-leb _ _ h)

  module _ (room : at + 12 ≤ length s) where
    pub step_other : (be 2 s at ≡ SOT → ⊥) → split_step_at s at ≡ None
    unfolding split_step_at
    step_other n = rw (le-leb _ _ room, ne_eqb _ _ n)

    pub step_part : be 2 s at ≡ SOT → split_step_at s at ≡ Some (part_end s at)
    unfolding split_step_at
    step_part e = rw (le-leb _ _ room, eq-eqb _ _ e)

  pub end_rest : psot s at ≡ 0 → part_end s at ≡ length s
  unfolding part_end
  end_rest z = rw (eq-eqb _ _ z)

  module _ (some : psot s at ≡ 0 → ⊥) where
    pub end_past : length s < at + psot s at → part_end s at ≡ length s
    unfolding part_end
    end_past h = rw (ne_eqb _ _ some, lt-leb _ _ h)

    pub end_psot : at + psot s at ≤ length s → part_end s at ≡ at + psot s at
    unfolding part_end
    end_psot h = rw (ne_eqb _ _ some, le-leb _ _ h)

-- ---- a part goes forward, and not past the end

abbrev Told : List ℕ → ℕ → Option ℕ → Type 0
Told s at (Some next) = (at < next) × (next ≤ length s)
Told s at None = Unit {0}

end_told : (s : List ℕ) (at : ℕ) → at + 12 ≤ length s → (at < part_end s at) × (part_end s at ≤ length s)
unfolding part_end
end_told s at h =
    by_test (λ (n : ℕ). (at < n) × (n ≤ length s)) (eqb (psot s at) 0) (λ _. (omega arith, omega arith))
    (λ n. by_test (λ (m : ℕ). (at < m) × (m ≤ length s)) (leb (at + psot s at) (length s))
    (λ i. (omega (arith, eqb-false (psot s at) 0 n), leb-true _ _ i))
    (λ _. (omega arith, omega arith)))

step_told : (s : List ℕ) (at : ℕ) → Told s at (split_step_at s at)
unfolding split_step_at
step_told s at =
    by_test (Told s at) (leb (at + 12) (length s))
    (λ h. by_test (Told s at) (eqb (be 2 s at) SOT) (λ _. end_told s at (leb-true _ _ h)) (λ _. tt))
    (λ _. tt)

pub part_inside : (s : List ℕ) (at next : ℕ) → split_step_at s at ≡ Some next → (at < next) × (next ≤ length s)
part_inside s at next found = rw found at (step_told s at)

moved : (s : List ℕ) (at next : ℕ) (found : Option ℕ) → Told s at found → move_of found ≡ on next → (at < next) × (next ≤ length s)
unfolding move_of
moved s at next (Some n) told m = let h : n ≡ next = cc in (omega arith, omega arith)
moved s at next None told m = absurd (end_on m)

pub move_inside : (s : List ℕ) (at next : ℕ) → move_at s at ≡ on next → (at < next) × (next ≤ length s)
unfolding move_at
move_inside s at next m = moved s at next (split_step_at s at) (step_told s at) m

pub rises : (s : List ℕ) → Rises (move_at s) (length s)
rises s at next m = let h = move_inside s at next m in (omega arith, omega arith)

-- ---- the parts, by what the step finds

pub parts_ended : (s : List ℕ) (at : ℕ) → split_step_at s at ≡ None → parts_from s at ≡ []
unfolding parts_from split_from move_at move_of
parts_ended s at e =
    ap (λ (c : Chain SplitEnd). map (visited s) c.visits) (chain_end ended (move_at s) (length s) (rises s) at ended (ap move_of e))

pub parts_on : (s : List ℕ) (at next : ℕ) → split_step_at s at ≡ Some next → parts_from s at ≡ take (next - at) (drop at s) ∷ parts_from s next
unfolding parts_from split_from move_at move_of also
parts_on s at next e =
    ap (λ (c : Chain SplitEnd). map (visited s) c.visits) (chain_on ended (move_at s) (length s) (rises s) at next (ap move_of e))

-- ---- the part at a position

module _ (s : List ℕ) (at : ℕ) where
  pub standing_none : split_step_at s at ≡ None → standing s at ≡ []
  unfolding standing found
  standing_none e = ap (found s at) e

  pub standing_part : (next : ℕ) → split_step_at s at ≡ Some next → standing s at ≡ take (next - at) (drop at s)
  unfolding standing found
  standing_part next e = ap (found s at) e

  going_on : (step : Option ℕ) → split_step_at s at ≡ step
      → parts_from s at ≡ cond (eqb (length (standing s at)) 0) [] (standing s at ∷ parts_from s (at + length (standing s at)))
  going_on (Some next) e =
      let h = part_inside s at next e in
      let here = standing_part next e in
      let long : length (standing s at) ≡ next - at = ap length here ∙ simp (length-take, length-drop) (omega arith) in
      let there : at + length (standing s at) ≡ next = omega arith in
      rw (ne_eqb (length (standing s at)) 0 (λ z. omega arith)) (parts_on s at next e ∙ sym (ap₂ (λ (p : List ℕ) (n : ℕ). p ∷ parts_from s n) here there))
  going_on None e = rw (eq-eqb (length (standing s at)) 0 (ap length (standing_none e))) (parts_ended s at e)

  -- going on from each part's end gives all parts
  pub parts_standing : parts_from s at ≡ cond (eqb (length (standing s at)) 0) [] (standing s at ∷ parts_from s (at + length (standing s at)))
  parts_standing = going_on (split_step_at s at) refl

-- ---- no real part is empty

real : (s : List ℕ) {at stop : ℕ} {visits : List Visit} → Run (move_at s) at visits stop
    → (k : ℕ) → k < length (map (visited s) visits) → 0 < length (get_or (map (visited s) visits) k [])
real s stay k h = absurd (omega arith)
real s (step {at = at} {next = next} found past rest) zero h =
    let i = move_inside s at next found in simp (length-take, length-drop) (omega arith)
real s (step found past rest) (suc k) h = real s rest k (omega arith)

pub part_real : (s : List ℕ) (k : ℕ) → k < length (parts_of s) → 0 < length (get_or (parts_of s) k [])
unfolding parts_of parts_from split_from
part_real s = real s (chain_run ended (move_at s) (length s) (rises s) 0)
