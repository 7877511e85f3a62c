-- Growth ends at the first of its regions that is enough for the header: one with the first SOT's marker, or the whole where no SOT is reached. So it can be
-- said of numbers alone, and there is just one such region.
use Prim.Native.Nat.{ℕ, ◌+◌, ◌≤◌}
use native.Mathlib.Omega.{arith}
use mathlib.Core.Path.{◌≡◌, refl, sym, ap, ◌∙◌}
use mathlib.Core.Bool.{◌||◌}
use mathlib.Core.List.{List}
use lib.ListN.{length}
use lib.Dec.{leb, eqb}
use borrow.Author.Tests.{ne_eqb, le-leb, lt-leb, leb-true, leb-false, eqb-true, eqb-false}
use Rattle.std.specs.Prelude.{Option, Some, None}
use Rattle.numbers.proofs.Choice.{by_bool}
use Rattle.header.specs.Extent.{extent_of, told_by, enough_of, enough}
use Rattle.header.proofs.ExtentPrefix.{complete_reached, extent_prefix}
use Rattle.reader.specs.Growth.{region_at, is_complete, suffices, grown, FirstWith}
use Rattle.reader.proofs.GrowthLaws.{region_within, grown_region, grown_suffices, grown_least}
use Rattle.types.specs.declared.CodestreamOffset.{CodestreamOffset}

-- a region suffices just where it is enough
by_extent : (s : List ℕ) (n : ℕ) → n ≤ length s → (extent : Option CodestreamOffset) → extent_of s ≡ extent
    → (eqb n (length s) || is_complete (told_by n extent)) ≡ leb (enough_of (length s) extent) n
unfolding is_complete told_by enough_of
by_extent s n within (Some at) e =
    let inside = (complete_reached s at e).inside in
    by_bool (leb (at.0 + 2) n)
    (λ h. rw h (by_bool (eqb n (length s)) (λ w. rw w) (λ w. rw w)))
    (λ h. rw (h, ne_eqb n (length s) (λ w. omega (arith, leb-false (at.0 + 2) n h))))
by_extent s n within None e =
    by_bool (eqb n (length s))
    (λ w. rw (w, le-leb (length s) n (omega (arith, eqb-true n (length s) w))))
    (λ w. rw (w, lt-leb (length s) n (omega (arith, eqb-false n (length s) w))))

pub suffices_enough : (s : List ℕ) (n : ℕ) → n ≤ length s → suffices s n ≡ leb (enough s) n
unfolding suffices enough
suffices_enough s n within = ap (λ (e : Option CodestreamOffset). eqb n (length s) || is_complete e) (extent_prefix s n) ∙ by_extent s n within (extent_of s) refl

-- there is no more than one first region
pub first_one : {size bytes j k : ℕ} → FirstWith size bytes j → FirstWith size bytes k → j ≡ k
first_one {j = j} {k} a b =
    by_bool (leb j k)
    (λ h. by_bool (leb k j)
    (λ g. omega (arith, leb-true j k h, leb-true k j g))
    (λ g. absurd (omega (arith, a.has, b.none j (leb-false k j g)))))
    (λ h. absurd (omega (arith, b.has, a.none k (leb-false j k h))))

module _ (s : List ℕ) where
  -- growth ends at the first region that is enough
  pub grown_first : FirstWith (length s) (enough s) (grown s).enlargements
  grown_first =
      let region : ℕ → ℕ = region_at (length s) in
      record {
        has = leb-true (enough s) (region (grown s).enlargements) (sym (suffices_enough s (region (grown s).enlargements) (region_within (length s) (grown s).enlargements)) ∙ rw (grown_region s) at (grown_suffices s));
        none = λ j h. leb-false (enough s) (region j) (sym (suffices_enough s (region j) (region_within (length s) j)) ∙ grown_least s j h);
      }

  -- and whatever region that is, it is growth's
  pub grown_only : (k : ℕ) → FirstWith (length s) (enough s) k → grown s ≡ record { region = region_at (length s) k; enlargements = k }
  grown_only k f =
      let same : (grown s).enlargements ≡ k = first_one grown_first f in
      let here : (grown s).region ≡ region_at (length s) k = grown_region s ∙ ap (region_at (length s)) same in
      (λ i. record { region = here i; enlargements = same i })
