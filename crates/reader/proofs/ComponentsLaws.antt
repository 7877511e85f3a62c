-- The definitions of component sizes, opened once: a law for each case.
use Prim.Native.Nat.{ℕ, zero, suc, ◌+◌, ◌*◌, ◌≤◌, ◌<◌}
use native.Mathlib.Omega.{arith}
use mathlib.Core.Path.{◌≡◌, sym, ap, ap₂, ◌∙◌}
use mathlib.Core.Bool.{Bool, true, false, ◌&&◌, and-eq-true_iff, and-false, false≢true}
use mathlib.Core.List.{List}
use lib.ListN.{length}
use lib.Dec.{leb, ltb, eqb}
use borrow.Author.Tests.{le-leb, lt-leb, lt-ltb, le-ltb, eq-eqb, ne_eqb, leb-true, leb-false, ltb-true, ltb-false, eqb-true}
use Rattle.std.specs.Prelude.{Some, None, Result, Ok, Err}
use Rattle.numbers.specs.Bytes.{be}
use Rattle.numbers.proofs.Choice.{by_test, by_bool}
use Rattle.types.specs.Markers.{SOC, SIZ}
use Rattle.types.specs.Siz.{lsiz, csiz, component}
use Rattle.types.specs.Refusals.{refusal}
use Rattle.types.specs.declared.Refusal.{Refusal}
use Rattle.types.specs.declared.Area.{Area}
use Rattle.header.specs.Step.{delimits, segment_end, passing, step_at}
use Rattle.header.specs.Parse.{stands}
use Rattle.header.specs.declared.step.Marker.{Marker}
use Rattle.header.specs.declared.step.HeaderStep.{HeaderStep}
use Rattle.header.specs.declared.step.HeaderStep.TheVariants.{Segment, CutShort}
use Rattle.header.proofs.ParseLaws.{stands_inside}
use Rattle.header.proofs.StepLaws.{step_no_length, step_no_end, step_segment}
use Rattle.tile.specs.Siz.{marker}
use Rattle.tile.specs.Rules.{image_area, placed_by}
use Rattle.tile.specs.declared.rules.Rule.{Rule}
use Rattle.reader.specs.Components.{siz_whole, count_held, apart, all_apart, ordered, components_read, at_tile, components_in_tile, component_at, is_there, component_in}
use Rattle.reader.specs.declared.components.Components.{Components}
use Rattle.types.specs.declared.Reason.TheVariants.{NoSoc, NoSiz, SegmentPastEnd, ImageEndsBeforeItStarts, ComponentsNotHeld, SubsamplingOf0}

module _ (s : List ℕ) where
  -- ---- SIZ's segment

  pub whole_fits : siz_whole s ≡ true → (6 ≤ length s) × (4 + lsiz s marker ≤ length s)
  unfolding siz_whole segment_end
  whole_fits e =
      let both = (and-eq-true_iff (leb 6 (length s)) _).0 e in
      let ends : 2 + (2 + lsiz s marker) ≤ length s = leb-true _ _ both.1 in
      (leb-true _ _ both.0, omega arith)

  pub stands_marked : (at m : ℕ) → stands s at m ≡ true → be 2 s at ≡ m
  unfolding stands
  stands_marked at m e = eqb-true _ _ ((and-eq-true_iff (leb (at + 2) (length s)) _).0 e).1

  -- a SIZ that stands at 2 is a segment where it is whole, and else cut short
  module _ (siz : stands s marker SIZ ≡ true) where
    not_sot : be 2 s marker ≡ 0xff90 → ⊥
    not_sot e = omega (arith, stands_marked marker SIZ siz)

    no_delimiter : delimits (be 2 s marker) ≡ false
    unfolding delimits
    no_delimiter = ap delimits (stands_marked marker SIZ siz)

    pub whole_segment : siz_whole s ≡ true → step_at s marker ≡ Segment (passing (be 2 s marker) (segment_end s marker))
    unfolding siz_whole
    whole_segment e =
        let t = (and-eq-true_iff (leb 6 (length s)) _).0 e in
        step_segment s marker (stands_inside s marker SIZ siz) not_sot no_delimiter (leb-true _ _ t.0) (leb-true _ _ t.1)

    pub cut_segment : siz_whole s ≡ false → step_at s marker ≡ CutShort
    unfolding siz_whole
    cut_segment e =
        by_bool (leb 6 (length s))
        (λ l. step_no_end s marker (stands_inside s marker SIZ siz) not_sot no_delimiter (leb-true _ _ l) (leb-false _ _ (ap (λ (b : Bool). b && leb (segment_end s marker) (length s)) (sym l) ∙ e)))
        (λ l. step_no_length s marker (stands_inside s marker SIZ siz) not_sot no_delimiter (leb-false _ _ l))

    pub segment_whole : (m : Marker) → step_at s marker ≡ Segment m → siz_whole s ≡ true
    segment_whole m e = by_bool (siz_whole s) (λ t. t) (λ t. let p = cut_segment t in let z : ◌≡◌ {A = ℕ} 0 1 = cc in absurd (omega arith))

    pub segment_else : (found : HeaderStep) → found ≡ step_at s marker → ((m : Marker) → found ≡ Segment m → ⊥) → siz_whole s ≡ false
    segment_else found e none = by_bool (siz_whole s) (λ t. absurd (none _ (e ∙ whole_segment t))) (λ t. t)

  -- ---- the count

  pub count_short : lsiz s marker < 41 → count_held s ≡ false
  unfolding count_held
  count_short h = rw (lt-leb _ _ h)

  pub count_other : 41 ≤ lsiz s marker → (lsiz s marker ≡ 38 + 3 * csiz s marker → ⊥) → count_held s ≡ false
  unfolding count_held
  count_other h n = rw (le-leb _ _ h, ne_eqb _ _ n)

  pub count_most : 41 ≤ lsiz s marker → lsiz s marker ≡ 38 + 3 * csiz s marker → count_held s ≡ leb (csiz s marker) 16384
  unfolding count_held
  count_most h e = rw (le-leb _ _ h, eq-eqb _ _ e, le-leb 1 (csiz s marker) (omega arith))

  held_is : count_held s ≡ true → (41 ≤ lsiz s marker) × (lsiz s marker ≡ 38 + 3 * csiz s marker)
  unfolding count_held
  held_is e =
      let long = (and-eq-true_iff (leb 41 (lsiz s marker)) _).0 e in
      (leb-true _ _ long.0, eqb-true _ _ ((and-eq-true_iff (eqb (lsiz s marker) (38 + 3 * csiz s marker)) _).0 long.1).0)

  -- a whole SIZ whose count is held reaches to its last component
  pub all_inside : siz_whole s ≡ true → count_held s ≡ true → (45 ≤ length s) × (component marker (csiz s marker) ≤ length s)
  all_inside w h = let a = whole_fits w in let b = held_is h in (omega arith, omega arith)

  -- ---- steps of 0

  pub one_apart : (k n : ℕ) → all_apart s n ≡ true → k < n → apart s (component marker k) ≡ true
  unfolding all_apart
  one_apart k zero e h = absurd (omega arith)
  one_apart k (suc n) e h =
      let both = (and-eq-true_iff (all_apart s n) (apart s (component marker n))).0 e in
      by_bool (ltb k n) (λ l. one_apart k n both.0 (ltb-true k n l)) (λ l. let last : k ≡ n = omega (arith, ltb-false k n l) in rw last both.1)

  pub apart_fails : (k n : ℕ) → apart s (component marker k) ≡ false → k < n → all_apart s n ≡ false
  apart_fails k n e h = by_bool (all_apart s n) (λ t. absurd (false≢true (sym e ∙ one_apart k n t h))) (λ f. f)

  pub apart_next : (n : ℕ) → all_apart s n ≡ true → apart s (component marker n) ≡ true → all_apart s (n + 1) ≡ true
  unfolding all_apart
  apart_next n a b =
      let next : n + 1 ≡ suc n = omega arith in
      let both : all_apart s (suc n) ≡ true = rw (a, b) in
      ap (all_apart s) next ∙ both

  -- ---- one component

  module _ (a : Area) (k : ℕ) where
    pub none_counted : csiz s marker ≤ k → component_in s a k ≡ Ok None
    unfolding component_in is_there
    none_counted h = rw (le-ltb _ _ h)

    pub none_inside : length s < component marker k + 3 → component_in s a k ≡ Ok None
    unfolding component_in is_there
    none_inside h = rw (lt-leb _ _ h, and-false)

    pub none_apart : apart s (component marker k) ≡ false → component_in s a k ≡ Ok None
    unfolding component_in is_there
    none_apart e = rw (e, and-false, and-false)

    pub some_in : k < csiz s marker → component marker k + 3 ≤ length s → apart s (component marker k) ≡ true
        → component_in s a k ≡ Ok (Some (component_at s a (component marker k)))
    unfolding component_in is_there
    some_in h l e = rw (lt-ltb _ _ h, le-leb _ _ l, e)

  -- ---- the check

  pub read_no_soc : stands s 0 SOC ≡ false → components_read s ≡ Err (refusal NoSoc 0)
  unfolding components_read
  read_no_soc e = rw e

  module _ (soc : stands s 0 SOC ≡ true) where
    pub read_no_siz : stands s marker SIZ ≡ false → components_read s ≡ Err (refusal NoSiz marker)
    unfolding components_read
    read_no_siz e = rw (soc, e)

    module _ (siz : stands s marker SIZ ≡ true) where
      pub read_cut : siz_whole s ≡ false → components_read s ≡ Err (refusal SegmentPastEnd marker)
      unfolding components_read
      read_cut e = rw (soc, siz, e)

      module _ (whole : siz_whole s ≡ true) where
        pub read_not_held : count_held s ≡ false → components_read s ≡ Err (refusal ComponentsNotHeld marker)
        unfolding components_read
        read_not_held e = rw (soc, siz, whole, e)

        module _ (held : count_held s ≡ true) where
          pub read_not_apart : all_apart s (csiz s marker) ≡ false → components_read s ≡ Err (refusal SubsamplingOf0 marker)
          unfolding components_read
          read_not_apart e = rw (soc, siz, whole, held, e)

          module _ (all : all_apart s (csiz s marker) ≡ true) where
            pub read_not_ordered : ordered (image_area s) ≡ false → components_read s ≡ Err (refusal ImageEndsBeforeItStarts marker)
            unfolding components_read
            read_not_ordered e = rw (soc, siz, whole, held, all, e)

            pub read_all : ordered (image_area s) ≡ true
                → components_read s ≡ Ok (record { count = csiz s marker; area = image_area s })
            unfolding components_read
            read_all e = rw (soc, siz, whole, held, all, e)

-- ---- an accepted check

pub record Accepted (s : List ℕ) (c : Components) : Type 0 where
  pub soc : stands s 0 SOC ≡ true
  pub siz : stands s marker SIZ ≡ true
  pub whole : siz_whole s ≡ true
  pub held : count_held s ≡ true
  pub steps : all_apart s (csiz s marker) ≡ true
  pub forward : ordered (image_area s) ≡ true
  pub count : c.count ≡ csiz s marker
  pub area : c.area ≡ image_area s

pub refused_accepts : {r : Refusal} {c : Components} → ◌≡◌ {A = Result Components Refusal} (Err r) (Ok c) → ⊥
refused_accepts e = let z : ◌≡◌ {A = ℕ} 0 1 = cc in omega arith

pub accepted : (s : List ℕ) (c : Components) → components_read s ≡ Ok c → Accepted s c
unfolding components_read
accepted s c =
    let P : Result Components Refusal → Type 0 = λ r. r ≡ Ok c → Accepted s c in
    by_test P (stands s 0 SOC)
    (λ soc. by_test P (stands s marker SIZ)
    (λ siz. by_test P (siz_whole s)
    (λ whole. by_test P (count_held s)
    (λ held. by_test P (all_apart s (csiz s marker))
    (λ steps. by_test P (ordered (image_area s))
    (λ forward e. let n : csiz s marker ≡ c.count = cc in let a : image_area s ≡ c.area = cc in record { soc = soc; siz = siz; whole = whole; held = held; steps = steps; forward = forward; count = sym n; area = sym a })
    (λ _ e. absurd (refused_accepts e)))
    (λ _ e. absurd (refused_accepts e)))
    (λ _ e. absurd (refused_accepts e)))
    (λ _ e. absurd (refused_accepts e)))
    (λ _ e. absurd (refused_accepts e)))
    (λ _ e. absurd (refused_accepts e))

-- ---- in a tile

module _ (rule : Rule) (s : List ℕ) (tile : ℕ) where
  pub tile_refused : (r : Refusal) → components_read s ≡ Err r → components_in_tile rule s tile ≡ Err r
  unfolding components_in_tile at_tile
  tile_refused r e = ap (λ (x : Result Components Refusal). at_tile x (placed_by rule s tile)) e

  module _ (c : Components) (e : components_read s ≡ Ok c) where
    pub tile_untold : (r : Refusal) → placed_by rule s tile ≡ Err r → components_in_tile rule s tile ≡ Err r
    unfolding components_in_tile at_tile
    tile_untold r f = ap₂ at_tile e f

    pub tile_found : (a : Area) → placed_by rule s tile ≡ Ok a → components_in_tile rule s tile ≡ Ok (record { count = c.count; area = a })
    unfolding components_in_tile at_tile
    tile_found a f = ap₂ at_tile e f

-- ---- an area in order

module _ (a : Area) where
  pub ordered_across : a.x1 < a.x0 → ordered a ≡ false
  unfolding ordered
  ordered_across h = rw (lt-leb _ _ h)

  pub ordered_down : a.y1 < a.y0 → ordered a ≡ false
  unfolding ordered
  ordered_down h = rw (lt-leb _ _ h, and-false)

  pub ordered_both : a.x0 ≤ a.x1 → a.y0 ≤ a.y1 → ordered a ≡ true
  unfolding ordered
  ordered_both h k = rw (le-leb _ _ h, le-leb _ _ k)
