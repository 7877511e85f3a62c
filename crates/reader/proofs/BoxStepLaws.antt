-- The step's definitions, opened once: a law for each case, which box it read, and where that lies.
use Prim.Native.Nat.{ℕ, ◌+◌, ◌-◌, ◌^◌, ◌≤◌, ◌<◌}
use native.Mathlib.Omega.{arith}
use mathlib.Core.Path.{◌≡◌, refl, sym, ap, ◌∙◌}
use mathlib.Core.Bool.{Bool, true, false, ◌&&◌, and-eq-true_iff}
use mathlib.Core.List.{List}
use lib.ListN.{length}
use lib.Dec.{leb, ltb, eqb}
use borrow.Author.Tests.{le-leb, lt-leb, lt-ltb, le-ltb, eq-eqb, ne_eqb, leb-true, leb-false, ltb-true, ltb-false, eqb-false}
use Rattle.numbers.specs.Bytes.{be}
use Rattle.numbers.proofs.Choice.{by_test}
use Rattle.reader.specs.Search.{box_at}
use Rattle.reader.proofs.SearchLaws.{BoxTold, box_told}
use Rattle.reader.specs.declared.search.BoxHeader.{BoxHeader}
use Rattle.std.specs.Prelude.{Option, Some, None, Result, Ok, Err}
use Rattle.reader.specs.declared.search.NoBox.{NoBox}
use Rattle.reader.specs.declared.search.NoBox.TheVariants.{End, CutShort}
use Rattle.types.specs.declared.Refusal.{Refusal}
use Rattle.reader.specs.BoxRow.{end_of}
use Rattle.reader.specs.BoxStep.{refused_at, opens, entry_of, judged_box, on_read, step_at}
use Rattle.reader.specs.declared.box_row.BoxEntry.{BoxEntry}
use Rattle.reader.specs.declared.box_step.ListStep.{ListStep}
use Rattle.reader.specs.declared.box_step.ListStep.TheVariants.{Plain, Superbox}
use Rattle.types.specs.declared.Reason.TheVariants.{BoxCutShort, BoxTooLong, BoxDoesNotFit, BoxLengthWrong, BoxesTooDeep}

-- ---- a box that was read

and_left : (a b : Bool) → a ≡ false → (a && b) ≡ false
and_left a b e = rw e

and_right : (a b : Bool) → b ≡ false → (a && b) ≡ false
and_right true b e = e
and_right false b e = refl

longer : (a b : ℕ) → a ≤ b → (b ≡ a → ⊥) → a < b
longer a b h n = omega arith

module _ (size depth at : ℕ) (b : BoxHeader) where
  pub judged_28 : b.length < b.header → judged_box size depth at b ≡ refused_at BoxLengthWrong at
  unfolding judged_box
  judged_28 h = rw (lt-ltb _ _ h)

  module _ (whole : b.header ≤ b.length) where
    pub judged_16 : 2 ^ 64 ≤ at + b.length → judged_box size depth at b ≡ refused_at BoxTooLong at
    unfolding judged_box
    judged_16 h = rw (le-ltb _ _ whole, le-leb (2 ^ 64) (at + b.length) h)

    module _ (fits : at + b.length < 2 ^ 64) where
      pub judged_27 : size < at + b.length → judged_box size depth at b ≡ refused_at BoxDoesNotFit at
      unfolding judged_box
      judged_27 h = rw (le-ltb _ _ whole, lt-leb (2 ^ 64) (at + b.length) fits, lt-ltb _ _ h)

      module _ (inside : at + b.length ≤ size) where
        pub judged_other : opens b.kind ≡ false → judged_box size depth at b ≡ Ok (Some (Plain (entry_of depth at b)))
        unfolding judged_box
        judged_other h = rw (le-ltb _ _ whole, lt-leb (2 ^ 64) (at + b.length) fits, le-ltb size _ inside, and_left _ _ h)

        pub judged_empty : b.length ≡ b.header → judged_box size depth at b ≡ Ok (Some (Plain (entry_of depth at b)))
        unfolding judged_box
        judged_empty h = rw (le-ltb _ _ whole, lt-leb (2 ^ 64) (at + b.length) fits, le-ltb size _ inside, and_right (opens b.kind) _ (le-ltb b.header b.length (omega arith)))

        module _ (kind : opens b.kind ≡ true) (content : b.length ≡ b.header → ⊥) where
          holds : (opens b.kind && ltb b.header b.length) ≡ true
          holds = (and-eq-true_iff (opens b.kind) (ltb b.header b.length)).1 (kind, lt-ltb b.header b.length (longer _ _ whole content))

          pub judged_29 : 8 ≤ depth → judged_box size depth at b ≡ refused_at BoxesTooDeep at
          unfolding judged_box
          judged_29 h = rw (le-ltb _ _ whole, lt-leb (2 ^ 64) (at + b.length) fits, le-ltb size _ inside, holds, le-ltb _ _ h)

          pub judged_superbox : depth < 8 → judged_box size depth at b ≡ Ok (Some (Superbox (entry_of depth at b)))
          unfolding judged_box
          judged_superbox h = rw (le-ltb _ _ whole, lt-leb (2 ^ 64) (at + b.length) fits, le-ltb size _ inside, holds, lt-ltb _ _ h)

-- ---- a step

module _ (s : List ℕ) (depth at : ℕ) where
  pub step_end : length s ≤ at → step_at s depth at ≡ Ok None
  unfolding step_at
  step_end h = rw (le-leb _ _ h)

  module _ (inside : at < length s) where
    by_read : (r : Result BoxHeader NoBox) → box_at s at ≡ r → step_at s depth at ≡ on_read s depth at r
    unfolding step_at
    by_read r e = rw (lt-leb _ _ inside, e)

    pub step_27 : box_at s at ≡ Err End → step_at s depth at ≡ refused_at BoxDoesNotFit at
    unfolding on_read
    step_27 e = by_read _ e

    pub step_13 : box_at s at ≡ Err CutShort → step_at s depth at ≡ refused_at BoxCutShort at
    unfolding on_read
    step_13 e = by_read _ e

    module _ (b : BoxHeader) (e : box_at s at ≡ Ok b) where
      pub step_28 : 1 < depth → be 4 s at ≡ 0 → step_at s depth at ≡ refused_at BoxLengthWrong at
      unfolding on_read
      step_28 h z = by_read _ e ∙ rw (lt-ltb _ _ h, eq-eqb _ _ z)

      pub step_top : depth ≤ 1 → step_at s depth at ≡ judged_box (length s) depth at b
      unfolding on_read
      step_top h = by_read _ e ∙ rw (and_left _ _ (le-ltb _ _ h))

      pub step_sized : (be 4 s at ≡ 0 → ⊥) → step_at s depth at ≡ judged_box (length s) depth at b
      unfolding on_read
      step_sized z = by_read _ e ∙ rw (and_right (ltb 1 depth) _ (ne_eqb _ _ z))

-- ---- which box was read, and where it lies

-- an entry is made of the box that was read; below the top, its length field is not 0
pub record Reads (s : List ℕ) (depth at : ℕ) (e : BoxEntry) : Type 0 where
  pub box : BoxHeader
  pub read : box_at s at ≡ Ok box
  pub is : e ≡ entry_of depth at box
  pub long : 8 ≤ box.header
  pub whole : box.header ≤ box.length
  pub fits : at + box.length < 2 ^ 64
  pub within : at + box.length ≤ length s
  pub sized : 1 < depth → be 4 s at ≡ 0 → ⊥

pub record Stands (s : List ℕ) (depth at : ℕ) (e : BoxEntry) : Type 0 where
  pub level : e.depth ≡ depth
  pub begins : e.start.0 ≡ at
  pub ahead : at + 8 ≤ e.content.0
  pub inside : end_of e ≤ length s

abbrev pub StepTold : List ℕ → ℕ → ℕ → Result (Option ListStep) Refusal → Type 0
StepTold s depth at (Ok (Some (Plain e))) = Reads s depth at e × (opens e.kind ≡ true → e.length ≡ 0)
StepTold s depth at (Ok (Some (Superbox e))) = Reads s depth at e × (depth < 8) × (opens e.kind ≡ true) × (0 < e.length)
StepTold s depth at (Ok None) = length s ≤ at
StepTold s depth at (Err r) = Unit {0}

stands : {s : List ℕ} {depth at : ℕ} {e : BoxEntry} → Reads s depth at e → Stands s depth at e
stands r = rw r.is (record { level = refl; begins = refl; ahead = omega arith; inside = omega arith })

more_than : (a b : ℕ) → a < b → 0 < b - a
more_than a b h = omega arith

no_more : (a b : ℕ) → b ≤ a → b - a ≡ 0
no_more a b h = omega arith

and-false : (a b : Bool) → (a && b) ≡ false → a ≡ true → b ≡ false
and-false true b e o = e
and-false false b e o = cc

module _ (s : List ℕ) (depth at : ℕ) where
  judged_told : (b : BoxHeader) → box_at s at ≡ Ok b → 8 ≤ b.header → (1 < depth → be 4 s at ≡ 0 → ⊥) → StepTold s depth at (judged_box (length s) depth at b)
  unfolding judged_box
  judged_told b e h z =
      by_test (StepTold s depth at) (ltb b.length b.header) (λ _. tt)
      (λ l. by_test (StepTold s depth at) (leb (2 ^ 64) (at + b.length)) (λ _. tt)
      (λ f. by_test (StepTold s depth at) (ltb (length s) (at + b.length)) (λ _. tt)
      (λ i. let here : Reads s depth at (entry_of depth at b) = record {
        box = b;
        read = e;
        is = refl;
        long = h;
        whole = ltb-false _ _ l;
        fits = leb-false (2 ^ 64) (at + b.length) f;
        within = ltb-false _ _ i;
        sized = z;
      } in
      by_test (StepTold s depth at) (opens b.kind && ltb b.header b.length)
      (λ k. let o = (and-eq-true_iff (opens b.kind) (ltb b.header b.length)).0 k in
      by_test (StepTold s depth at) (ltb depth 8) (λ d. (here, ltb-true _ _ d, o.0, more_than _ _ (ltb-true b.header b.length o.1))) (λ _. tt))
      (λ k. (here, λ o. no_more _ _ (ltb-false b.header b.length (and-false (opens b.kind) (ltb b.header b.length) k o)))))))

  read_told : (r : Result BoxHeader NoBox) → box_at s at ≡ r → BoxTold s at r → StepTold s depth at (on_read s depth at r)
  unfolding on_read
  read_told (Err End) e told = tt
  read_told (Err CutShort) e told = tt
  read_told (Ok b) e told =
      by_test (StepTold s depth at) (ltb 1 depth && eqb (be 4 s at) 0) (λ _. tt)
      (λ k. judged_told b e told.0 (λ d z. eqb-false (be 4 s at) 0 (and-false (ltb 1 depth) _ k (lt-ltb 1 depth d)) z))

  step_told : StepTold s depth at (step_at s depth at)
  unfolding step_at
  step_told = by_test (StepTold s depth at) (leb (length s) at) (λ l. leb-true _ _ l) (λ _. read_told (box_at s at) refl (box_told s at))

module _ {s : List ℕ} {depth at : ℕ} {e : BoxEntry} where
  pub plain_reads : step_at s depth at ≡ Ok (Some (Plain e)) → Reads s depth at e
  plain_reads h = (rw h at (step_told s depth at)).0

  pub superbox_reads : step_at s depth at ≡ Ok (Some (Superbox e)) → Reads s depth at e
  superbox_reads h = (rw h at (step_told s depth at)).0

  pub plain_stands : step_at s depth at ≡ Ok (Some (Plain e)) → Stands s depth at e
  plain_stands h = stands (plain_reads h)

  pub superbox_stands : step_at s depth at ≡ Ok (Some (Superbox e)) → Stands s depth at e × (depth < 8) × (opens e.kind ≡ true) × (0 < e.length)
  superbox_stands h = let told : StepTold s depth at (Ok (Some (Superbox e))) = rw h at (step_told s depth at) in (stands told.0, told.1, told.2, told.3)

pub some_inside : (s : List ℕ) (depth at : ℕ) (x : ListStep) → step_at s depth at ≡ Ok (Some x) → at < length s
some_inside s depth at (Plain e) h = let p = plain_stands h in omega arith
some_inside s depth at (Superbox e) h = let p = (superbox_stands h).0 in omega arith

-- what a step gave, as it was matched
pub step_is : {step : Result (Option ListStep) Refusal} {o : Option ListStep} {y x : ListStep} → Ok o ≡ step → o ≡ Some y → y ≡ x → step ≡ Ok (Some x)
step_is e f g = sym e ∙ ap Ok (f ∙ ap Some g)

module _ (s : List ℕ) (depth at : ℕ) where
  -- a superbox that is not opened is empty
  pub plain_empty : (e : BoxEntry) → step_at s depth at ≡ Ok (Some (Plain e)) → opens e.kind ≡ true → e.length ≡ 0
  plain_empty e h = (rw h at (step_told s depth at)).1

  -- a list ends where what holds it ends
  pub end_reached : step_at s depth at ≡ Ok None → at ≤ length s → at ≡ length s
  end_reached h i = let told : length s ≤ at = rw h at (step_told s depth at) in omega arith
