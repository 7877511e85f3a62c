-- The answer of an extension, case by case; and what the lent index and scratch hold behind it.
use Prim.Native.Nat.{ℕ, ◌+◌, ◌-◌, ◌≤◌, ◌<◌}
use native.Mathlib.Nat.{add-zero, sub-zero}
use native.Mathlib.Numerals.{add-one}
use native.Mathlib.Omega.{arith}
use mathlib.Core.Path.{◌≡◌, refl, sym, ap, ap₂, ◌∙◌}
use mathlib.Core.List.{List, [], ◌∷◌, ◌++◌, append_assoc, append-nil}
use lib.ListN.{length, take, drop, set, drop_of_length-le}
use lib.Seq.{take_all, take-take, take-suc-set}
use lib.Dec.{leb}
use borrow.Author.Tests.{le-leb, lt-leb, leb-true}
use Rattle.std.specs.Prelude.{Result, Ok, Err}
use Rattle.numbers.proofs.Choice.{by_test, by_bool}
use Rattle.types.specs.Refusals.{refusal}
use Rattle.types.specs.declared.Refusal.{Refusal}
use Rattle.types.specs.declared.TilePartEntry.{TilePartEntry}
use Rattle.index.specs.Index.{numbered, key_of, index_from}
use Rattle.index.specs.Merge.{merged}
use Rattle.index.specs.Extend.{old_of, fits, extended, index_after, scratch_after, index_made, keys_from}
use Rattle.index.proofs.MergeLaws.{merged_none}
use Rattle.types.specs.declared.Reason.TheVariants.{TableTooSmall}

refused_not : {X : Type 0} (n m : ℕ) → Err (refusal TableTooSmall n) ≡ Ok m → X
refused_not n m e = absurd (let z : ◌≡◌ {A = ℕ} 0 1 = cc in omega arith)

pub old_some : (have n : ℕ) → have ≤ n → old_of have n ≡ have
old_some have n h = rw (le-leb have n h)

pub old_none : (have n : ℕ) → n < have → old_of have n ≡ 0
old_none have n h = rw (lt-leb have n h)

pub old_within : (have n : ℕ) → old_of have n ≤ n
old_within have n = by_test (λ m. m ≤ n) (leb have n) (λ yes. leb-true have n yes) (λ no. omega arith)

module _ (n have room scratch : ℕ) where
  pub too_many : numbered < n → Err (refusal TableTooSmall n) ≡ extended n have room scratch
  unfolding extended fits
  too_many h = rw (lt-leb n numbered h)

  pub no_room : n ≤ numbered → room < n → Err (refusal TableTooSmall n) ≡ extended n have room scratch
  unfolding extended fits
  no_room few h = rw (le-leb n numbered few, lt-leb n room h)

  pub no_scratch : n ≤ numbered → n ≤ room → scratch < n - old_of have n → Err (refusal TableTooSmall n) ≡ extended n have room scratch
  unfolding extended fits
  no_scratch few fit h = rw (le-leb n numbered few, le-leb n room fit, lt-leb (n - old_of have n) scratch h)

  pub all_fit : n ≤ numbered → n ≤ room → n - old_of have n ≤ scratch → Ok n ≡ extended n have room scratch
  unfolding extended fits
  all_fit few fit h = rw (le-leb n numbered few, le-leb n room fit, le-leb (n - old_of have n) scratch h)

-- an accepted answer: all of it fits
pub record Fit (n have room scratch m : ℕ) : Type 0 where
  pub few : n ≤ numbered
  pub fit : n ≤ room
  pub rest : n - old_of have n ≤ scratch
  pub all : n ≡ m

accepted : (n have room scratch m : ℕ) → extended n have room scratch ≡ Ok m → Fit n have room scratch m
unfolding extended fits
accepted n have room scratch m e =
    by_bool (leb n numbered)
    (λ few.
    by_bool (leb n room)
    (λ fit.
    by_bool (leb (n - old_of have n) scratch)
    (λ rest.
    let same : Ok n ≡ Ok m = rw (few, fit, rest) at e in
    record { few = leb-true n numbered few; fit = leb-true n room fit; rest = leb-true (n - old_of have n) scratch rest; all = cc })
    (λ rest. refused_not n m (rw (few, fit, rest) at e)))
    (λ fit. refused_not n m (rw (few, fit) at e)))
    (λ few. refused_not n m (rw few at e))

-- there is room for all and for the new ones
pub record Room (n index scratch old : ℕ) : Type 0 where
  pub few : n ≤ numbered
  pub all : n ≤ index
  pub within : old ≤ n
  pub new : n - old ≤ scratch

-- the answer stands before anything is written
pub record Decided (n have : ℕ) (index scratch : List ℕ) (answer : Result ℕ Refusal) : Type 0 where
  pub is : answer ≡ extended n have (length index) (length scratch)

module _ {n have : ℕ} {index scratch : List ℕ} {answer : Result ℕ Refusal} (d : Decided n have index scratch answer) where
  pub index_kept : (es : List TilePartEntry) {r : Refusal} → answer ≡ Err r → index ≡ index_after answer es (old_of have n) index
  unfolding index_after
  index_kept es refused = ap (λ (x : Result ℕ Refusal). index_after x es (old_of have n) index) (sym refused)

  pub scratch_kept : (es : List TilePartEntry) {r : Refusal} → answer ≡ Err r → scratch ≡ scratch_after answer es (old_of have n) scratch
  unfolding scratch_after
  scratch_kept es refused = ap (λ (x : Result ℕ Refusal). scratch_after x es (old_of have n) scratch) (sym refused)

  fitting : {m : ℕ} → answer ≡ Ok m → Fit n have (length index) (length scratch) m
  fitting {m} e = accepted n have (length index) (length scratch) m (sym d.is ∙ e)

  pub room : {m old : ℕ} → answer ≡ Ok m → old ≡ old_of have n → Room n (length index) (length scratch) old
  room e was = let f = fitting e in record { few = f.few; all = f.fit; within = omega (arith, old_within have n); new = omega (arith, f.rest) }

  pub index_after_lem : (es : List TilePartEntry) {m old : ℕ} {next : List ℕ} → answer ≡ Ok m → old ≡ old_of have n → next ≡ merged (take old (take n index)) (index_from old (drop old es))
      → next ++ drop n index ≡ index_after answer es (old_of have n) index
  unfolding index_after
  index_after_lem es {m} {old} {next} e was new =
      let fit = fitting e in
      ap₂ (λ (l : List ℕ) (k : ℕ). l ++ drop k index)
      (new ∙ ap (λ (l : List ℕ). merged l (index_from old (drop old es))) (take-take old n index (omega (arith, old_within have n))) ∙ ap (λ (k : ℕ). merged (take k index) (index_from k (drop k es))) was)
      fit.all
      ∙ ap (λ (x : Result ℕ Refusal). index_after x es (old_of have n) index) (sym e)

  pub scratch_after_lem : (es : List TilePartEntry) {m old : ℕ} {next : List ℕ} → answer ≡ Ok m → old ≡ old_of have n → next ≡ index_from old (drop old es)
      → next ++ drop (n - old) scratch ≡ scratch_after answer es (old_of have n) scratch
  unfolding scratch_after
  scratch_after_lem es {m} {old} {next} e was new =
      let fit = fitting e in
      ap (λ (l : List ℕ). l ++ drop (n - old) scratch) new
      ∙ ap₂ (λ (k j : ℕ). index_from k (drop k es) ++ drop (j - k) scratch) was fit.all
      ∙ ap (λ (x : Result ℕ Refusal). scratch_after x es (old_of have n) scratch) (sym e)

-- ---- afresh

pub index_afresh : (n : ℕ) (r : Result ℕ Refusal) (es : List TilePartEntry) (index : List ℕ) → index_after r es (old_of 0 n) index ≡ index_made r es index
unfolding index_after index_made
index_afresh n (Ok m) es index = rw (old_some 0 n (omega arith)) (ap (λ (l : List ℕ). l ++ drop m index) (merged_none (index_from 0 es)))
index_afresh n (Err x) es index = refl

pub scratch_afresh : (n : ℕ) (r : Result ℕ Refusal) (es : List TilePartEntry) (scratch : List ℕ) → scratch_after r es (old_of 0 n) scratch ≡ index_made r es scratch
unfolding scratch_after index_made
scratch_afresh n (Ok m) es scratch = rw (old_some 0 n (omega arith)) (ap (λ (k : ℕ). index_from 0 es ++ drop k scratch) (sub-zero m))
scratch_afresh n (Err x) es scratch = refl

-- ---- the keys, stored one by one

module _ (es : List TilePartEntry) (first : ℕ) where
  -- those that are stored, before those of the entries that are left
  abbrev pub Filled : List ℕ → ℕ → Type 0
  Filled keys i = take i keys ++ keys_from (first + i) (drop (first + i) es) ≡ keys_from first (drop first es)

  pub filled_none : (keys : List ℕ) → Filled keys 0
  filled_none keys = ap (λ (n : ℕ). keys_from n (drop n es)) (add-zero first)

  pub filled_one : {e : TilePartEntry} (keys : List ℕ) (i key : ℕ) → i < length keys → drop (first + i) es ≡ e ∷ drop (first + i + 1) es
      → key ≡ key_of e.tile_index (first + i) → Filled keys i → Filled (set keys i key) (i + 1)
  unfolding keys_from
  filled_one {e} keys i key h here is was =
      let next : first + (i + 1) ≡ first + i + 1 = omega arith in
      let rest : List ℕ = keys_from (first + i + 1) (drop (first + i + 1) es) in
      ap₂ (λ (l : List ℕ) (n : ℕ). l ++ keys_from n (drop n es)) (ap (λ (n : ℕ). take n (set keys i key)) (add-one i) ∙ take-suc-set keys i key h) next
      ∙ append_assoc (take i keys) (key ∷ []) rest
      ∙ ap (λ (k : ℕ). take i keys ++ (k ∷ rest)) is
      ∙ ap (λ (l : List TilePartEntry). take i keys ++ keys_from (first + i) l) (sym here)
      ∙ was

  pub filled_all : (keys : List ℕ) (i : ℕ) → length keys ≤ i → length es ≤ first + i → Filled keys i → keys ≡ keys_from first (drop first es)
  unfolding keys_from
  filled_all keys i h all was =
      sym (append-nil keys)
      ∙ ap₂ (λ (l : List ℕ) (xs : List TilePartEntry). l ++ keys_from (first + i) xs) (sym (take_all i keys h)) (sym (drop_of_length-le es all))
      ∙ was
