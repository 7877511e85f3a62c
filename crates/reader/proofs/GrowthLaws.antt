-- The growth's definitions, opened once: the regions as powers of two, a step by whether its region suffices, and laws of the answer: the
-- region suffices, none before it does, the enlargements are the regions tried less one, and they are at most 48.
use Prim.Native.Nat.{ℕ, zero, suc, ◌+◌, ◌*◌, ◌^◌, ◌≤◌, ◌<◌, min}
use native.Mathlib.Nat.{pow-suc, pow-le-pow_right, eq-or-lt_of_le}
use native.Mathlib.Numerals.{add-one}
use native.Mathlib.Omega.{arith}
use mathlib.Core.Path.{◌≡◌, refl, sym, ap, ◌∙◌}
use mathlib.Core.Logic.{⊎_elim}
use mathlib.Core.Bool.{Bool, true, false}
use mathlib.Core.List.{List}
use lib.ListN.{length, take, length-append, length-map}
use lib.Dec.{leb, lit<}
use borrow.Author.Tests.{eq-eqb, ne_eqb, leb-true, leb-false}
use Rattle.std.specs.Prelude.{Option, Some, None, is_some}
use Rattle.chain.specs.Chain.{end, on, Visit, Rises, Run, stay, step, also}
use Rattle.chain.proofs.ChainLaws.{chain_end, chain_on, chain_run, chain_stops}
use Rattle.header.specs.Extent.{extent_of}
use Rattle.types.specs.declared.CodestreamOffset.{CodestreamOffset}
use Rattle.numbers.proofs.Choice.{by_test}
use Rattle.reader.proofs.Moves.{Told, told_on, told_end}
use Rattle.reader.specs.declared.growth.Grown.{Grown}
use Rattle.reader.specs.Growth.{next_region, region_at, is_complete, suffices, move_at, growth_from, grown_at, grown, tried}

-- ---- the regions

pub region_pow : (size k : ℕ) → region_at size k ≡ min (65536 * 2 ^ k) size
unfolding region_at next_region
region_pow size zero = refl
region_pow size (suc k) = rw (region_pow size k, pow-suc 2 k) (omega arith)

pub region_within : (size k : ℕ) → region_at size k ≤ size
region_within size k = omega (arith, region_pow size k)

below_pow : (k : ℕ) → k < 2 ^ k
below_pow zero = lit< tt
below_pow (suc k) = rw (pow-suc 2 k) (omega (arith, below_pow k))

-- none is smaller than the first
pub region_least : (size k : ℕ) → min 65536 size ≤ region_at size k
region_least size k = omega (arith, region_pow size k, below_pow k)

-- a region that is not the whole comes early
pub region_early : (size k : ℕ) → region_at size k < size → k < size
region_early size k h = omega (arith, region_pow size k, below_pow k)

-- and in a codestream of fewer than 2^64 bytes among the first 48
pub region_48 : (size k : ℕ) → size < 2 ^ 64 → region_at size k < size → k < 48
region_48 size k small h =
    by_test (λ (_ : Unit {0}). k < 48) (leb 48 k) {x = tt} {y = tt}
    (λ m. let p : 2 ^ 48 ≤ 2 ^ k = pow-le-pow_right (lit< tt) (leb-true 48 k m) in absurd (omega (arith, region_pow size k)))
    (λ m. leb-false 48 k m)

-- ---- what suffices

complete_told : (extent : Option CodestreamOffset) → is_complete extent ≡ is_some extent
unfolding is_complete
complete_told (Some at) = refl
complete_told None = refl

module _ (s : List ℕ) (region : ℕ) where
  pub whole_suffices : region ≡ length s → suffices s region ≡ true
  unfolding suffices
  whole_suffices e = rw (eq-eqb _ _ e)

  module _ (part : region ≡ length s → ⊥) where
    pub extent_suffices : (told : Bool) → is_some (extent_of (take region s)) ≡ told → suffices s region ≡ told
    unfolding suffices
    extent_suffices told e = rw (ne_eqb _ _ part) (complete_told (extent_of (take region s)) ∙ e)

    pub truncated_not : extent_of (take region s) ≡ None → suffices s region ≡ false
    unfolding suffices is_complete
    truncated_not e = rw (ne_eqb _ _ part, e)

  -- what does not suffice is not the whole
  not_whole : suffices s region ≡ false → region ≡ length s → ⊥
  not_whole n e = let t = whole_suffices e in let z : ◌≡◌ {A = Bool} true false = cc in let o : ◌≡◌ {A = ℕ} 0 1 = cc in omega arith

-- ---- a step

module _ (s : List ℕ) (k : ℕ) where
  pub move_end : suffices s (region_at (length s) k) ≡ true → move_at s k ≡ end tt
  unfolding move_at
  move_end e = rw e

  pub move_on : suffices s (region_at (length s) k) ≡ false → move_at s k ≡ on (k + 1)
  unfolding move_at
  move_on e = rw e

  -- a step that ends has a region that suffices; one that goes on has one that doesn't, and adds one
  Ends : Unit {0} → Type 0
  Ends _ = suffices s (region_at (length s) k) ≡ true

  Goes : ℕ → Type 0
  Goes next = (next ≡ k + 1) × (suffices s (region_at (length s) k) ≡ false)

  move_told : Told Ends Goes (move_at s k)
  unfolding move_at Told Ends Goes
  move_told = by_test (Told Ends Goes) (suffices s (region_at (length s) k)) (λ e. e) (λ e. (refl, e))

  ends : move_at s k ≡ end tt → suffices s (region_at (length s) k) ≡ true
  unfolding Ends
  ends e = told_end Ends Goes (move_at s k) move_told tt e

  goes : (next : ℕ) → move_at s k ≡ on next → (next ≡ k + 1) × (suffices s (region_at (length s) k) ≡ false)
  unfolding Goes
  goes next e = told_on Ends Goes (move_at s k) move_told next e

  goes_part : (next : ℕ) → move_at s k ≡ on next → region_at (length s) k < length s
  goes_part next e =
      let n : region_at (length s) k ≡ length s → ⊥ = not_whole s (region_at (length s) k) (goes next e).1 in
      omega (arith, region_within (length s) k, n)

pub rises : (s : List ℕ) → Rises (move_at s) (length s)
rises s k next e = let g = goes s k next e in (omega arith, region_early (length s) k (goes_part s k next e))

-- ---- the answer after some enlargements, by what the step finds

pub grown_end : (s : List ℕ) (k : ℕ) → suffices s (region_at (length s) k) ≡ true
    → grown_at s (growth_from s k) ≡ record { region = region_at (length s) k; enlargements = k }
unfolding growth_from grown_at
grown_end s k e = ap (grown_at s) (chain_end tt (move_at s) (length s) (rises s) k tt (move_end s k e))

pub grown_on : (s : List ℕ) (k : ℕ) → suffices s (region_at (length s) k) ≡ false
    → grown_at s (growth_from s k) ≡ grown_at s (growth_from s (k + 1))
unfolding growth_from grown_at also
grown_on s k e = ap (grown_at s) (chain_on tt (move_at s) (length s) (rises s) k (k + 1) (move_on s k e))

-- ---- a turn: after k enlargements, with the growth from there on ending as the whole does

module _ (s : List ℕ) (k region : ℕ) (here : region ≡ region_at (length s) k) (same : grown_at s (growth_from s k) ≡ grown s) where
  pub turn_last : suffices s region ≡ true → ◌≡◌ {A = Grown} (record { region = region; enlargements = k }) (grown s)
  turn_last e = (λ i. record { region = here i; enlargements = k }) ∙ sym (grown_end s k (rw here at e)) ∙ same

  pub turn_part : (region ≡ length s → ⊥) → region < length s
  turn_part n = omega (arith, region_within (length s) k)

  pub turn_more : suffices s region ≡ false
      → (next_region region (length s) ≡ region_at (length s) (k + 1)) × (grown_at s (growth_from s (k + 1)) ≡ grown s)
  unfolding region_at
  turn_more e = (rw (add-one k, here), sym (grown_on s k (rw here at e)) ∙ same)

-- ---- what the answer says

-- a run of enlargements: each adds one
run_steps : (s : List ℕ) {k stop : ℕ} {visits : List Visit} → Run (move_at s) k visits stop → stop ≡ k + length visits
run_steps s stay = omega arith
run_steps s (step {at = k} {next = next} {rest = rest} found past more) = let g = goes s k next found in omega (arith, run_steps s more)

-- and none of the regions that it enlarges suffices
run_least : (s : List ℕ) {k stop : ℕ} {visits : List Visit} → Run (move_at s) k visits stop
    → (j : ℕ) → k ≤ j → j < stop → suffices s (region_at (length s) j) ≡ false
run_least s stay j l h = absurd (omega arith)
run_least s (step {at = k} {next = next} found past more) j l h =
    ⊎_elim (λ (e : k ≡ j). ap (λ (n : ℕ). suffices s (region_at (length s) n)) (sym e) ∙ (goes s k next found).1)
    (λ (m : k < j). run_least s more j (let g = goes s k next found in omega arith) h)
    (eq-or-lt_of_le l)

run_48 : (s : List ℕ) → length s < 2 ^ 64 → {k stop : ℕ} {visits : List Visit} → Run (move_at s) k visits stop → k ≤ 48 → stop ≤ 48
run_48 s small stay h = h
run_48 s small (step {at = k} {next = next} found past more) h =
    let g = goes s k next found in
    run_48 s small more (omega (arith, region_48 (length s) k small (goes_part s k next found)))

module _ (s : List ℕ) where
  run : Run (move_at s) 0 (growth_from s 0).visits (growth_from s 0).stopped
  unfolding growth_from
  run = chain_run tt (move_at s) (length s) (rises s) 0

  pub grown_region : (grown s).region ≡ region_at (length s) (grown s).enlargements
  unfolding grown grown_at
  grown_region = refl

  pub grown_suffices : suffices s (grown s).region ≡ true
  unfolding grown grown_at growth_from
  grown_suffices = ends s _ (chain_stops tt (move_at s) (length s) (rises s) 0)

  pub grown_least : (j : ℕ) → j < (grown s).enlargements → suffices s (region_at (length s) j) ≡ false
  unfolding grown grown_at
  grown_least j h = run_least s run j (omega arith) h

  pub grown_tried : length (tried s) ≡ (grown s).enlargements + 1
  unfolding grown grown_at tried
  grown_tried = simp (length-append, length-map) (omega (arith, run_steps s run))

  pub grown_48 : length s < 2 ^ 64 → (grown s).enlargements ≤ 48
  unfolding grown grown_at
  grown_48 small = run_48 s small run (omega arith)
