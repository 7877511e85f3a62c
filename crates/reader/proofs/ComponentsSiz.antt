-- Which components an accepted check lists, and how the check stands beside the SIZ reading and beside the main header's.
use Prim.Native.Nat.{ℕ, ◌-◌, ◌≤◌, ◌<◌}
use native.Mathlib.Omega.{arith}
use mathlib.Core.Path.{◌≡◌, refl, sym, ap, ◌∙◌}
use mathlib.Core.Bool.{Bool, true, false, and-eq-true_iff}
use mathlib.Core.List.{List}
use lib.ListN.{length}
use lib.Dec.{leb}
use borrow.Author.Tests.{le-leb, leb-true}
use Rattle.std.specs.Prelude.{Some, None, Result, Ok, Err}
use Rattle.numbers.proofs.Choice.{by_test, by_bool}
use Rattle.types.specs.Markers.{SOC, SIZ}
use Rattle.types.specs.Siz.{xsiz, xosiz, csiz, component}
use Rattle.types.specs.Refusals.{refusal, number_of, refusal_number}
use Rattle.types.specs.declared.Area.{Area}
use Rattle.types.specs.declared.Refusal.{Refusal}
use Rattle.chain.specs.Chain.{Chain}
use Rattle.header.specs.Walk.{WalkEnd, walk_from, cut_at}
use Rattle.header.specs.Parse.{stands, read_as, judged}
use Rattle.header.specs.declared.parse.MainHeaderInfo.{MainHeaderInfo}
use Rattle.header.proofs.WalkLaws.{walk_cut, walk_refused}
use Rattle.header.proofs.NumberingLaws.{refused_header}
use Rattle.header.proofs.ParseLaws.{stands_inside, judged_no_soc, judged_no_siz, judged_walk, judged_read}
use Rattle.tile.specs.Siz.{marker}
use Rattle.tile.specs.Rules.{image_area}
use Rattle.tile.specs.declared.rules.Rule.{Rule}
use Rattle.reader.specs.Siz.{info_at, siz_read}
use Rattle.reader.specs.Components.{siz_whole, count_held, all_apart, ordered, components_read, components_in_tile, component_at, component_in}
use Rattle.reader.specs.declared.components.Components.{Components}
use Rattle.reader.proofs.SizLaws.{siz_info, move_siz, read_end_lem}
use Rattle.reader.proofs.ComponentsLaws.{stands_marked, cut_segment, all_inside, one_apart, none_counted, some_in, Accepted, accepted, refused_accepts}
use Rattle.reader.proofs.ComponentsAreas.{InImage, tile_inside}
use Rattle.types.specs.declared.Reason.{Reason}
use Rattle.types.specs.declared.Reason.TheVariants.{SegmentPastEnd, ImageEndsBeforeItStarts, ComponentsNotHeld, SubsamplingOf0}

-- ---- which components are listed

module _ (s : List ℕ) (c : Components) (e : components_read s ≡ Ok c) where
  -- Each that is counted is given, in any area: its bytes lie inside and its steps are not 0.
  pub listed : (a : Area) (k : ℕ) → k < c.count → component_in s a k ≡ Ok (Some (component_at s a (component marker k)))
  listed a k h =
      let y : Accepted s c = accepted s c e in
      let inside = all_inside s y.whole y.held in
      let counted : k < csiz s marker = omega (arith, y.count) in
      some_in s a k counted (omega arith) (one_apart s k (csiz s marker) y.steps counted)

  -- No other is.
  pub unlisted : (a : Area) (k : ℕ) → c.count ≤ k → component_in s a k ≡ Ok None
  unlisted a k h = none_counted s a k (omega (arith, (accepted s c e).count))

-- and so after a check of a tile
module _ (rule : Rule) (s : List ℕ) (tile : ℕ) (t : Components) (e : components_in_tile rule s tile ≡ Ok t) where
  pub listed_tile : (a : Area) (k : ℕ) → k < t.count → component_in s a k ≡ Ok (Some (component_at s a (component marker k)))
  listed_tile a k h = let i : InImage s t = tile_inside rule s tile t e in listed s i.image i.read a k (omega (arith, i.count))

  pub unlisted_tile : (a : Area) (k : ℕ) → t.count ≤ k → component_in s a k ≡ Ok None
  unlisted_tile a k h = let i : InImage s t = tile_inside rule s tile t e in unlisted s i.image i.read a k (omega (arith, i.count))

-- ---- beside the SIZ reading

-- the SIZ reading gives the fields at 2, and those that both give are the same
pub record SizSays (s : List ℕ) (c : Components) : Type 0 where
  pub read : siz_read s ≡ Ok (info_at s marker)
  pub count : c.count ≡ (info_at s marker).num_components
  pub width : c.area.x1 - c.area.x0 ≡ (info_at s marker).width
  pub height : c.area.y1 - c.area.y0 ≡ (info_at s marker).height
  pub bits : (a : Area) → (component_at s a (component marker 0)).bits ≡ (info_at s marker).bits_per_component
  pub sign : (a : Area) → (component_at s a (component marker 0)).is_signed ≡ (info_at s marker).is_signed

pub siz_agrees : (s : List ℕ) (c : Components) → components_read s ≡ Ok c → SizSays s c
unfolding siz_read info_at image_area ordered component_at
siz_agrees s c e =
    let y : Accepted s c = accepted s c e in
    let long = (all_inside s y.whole y.held).0 in
    let across = (and-eq-true_iff (leb (xosiz s marker) (xsiz s marker)) _).0 y.forward in
    record {
      read = read_end_lem s 2 _ (move_siz s 2 (omega arith) (stands_marked s 2 SIZ y.siz)) ∙ siz_info s 2 (omega arith) (leb-true _ _ across.0) (leb-true _ _ across.1);
      count = y.count;
      width = ap (λ (a : Area). a.x1 - a.x0) y.area;
      height = ap (λ (a : Area). a.y1 - a.y0) y.area;
      bits = λ a. refl;
      sign = λ a. refl;
    }

-- ---- beside the main header

-- a SIZ that is not whole cuts the walk short at its first step
module _ (s : List ℕ) (siz : stands s marker SIZ ≡ true) (cut : siz_whole s ≡ false) where
  cut_judged : length s ≤ 0xffff_ffff → stands s 0 SOC ≡ true → judged s ≡ Err (refusal SegmentPastEnd marker)
  unfolding read_as cut_at
  cut_judged short soc =
      judged_walk s short soc siz
      ∙ ap (read_as s (walk_from s 2)) (ap (λ (w : Chain WalkEnd). w.ended) (walk_refused s 2 _ (walk_cut s 2 (cut_segment s siz cut))))
      ∙ rw (le-leb 4 (length s) (stands_inside s marker SIZ siz))

-- a test that holds, since where it fails something absurd follows
holds : (b : Bool) → (b ≡ false → ⊥) → b ≡ true
holds b f = by_bool b (λ t. t) (λ e. absurd (f e))

-- Where the main header's reading accepts, the check is not refused by 1, 2 or 3.
pub header_agrees : (s : List ℕ) (h : MainHeaderInfo) → judged s ≡ Ok h → (stands s 0 SOC ≡ true) × (stands s marker SIZ ≡ true) × (siz_whole s ≡ true)
header_agrees s h e =
    let short = (judged_read s h e).short in
    let soc : stands s 0 SOC ≡ true = holds (stands s 0 SOC) (λ f. refused_header (sym (judged_no_soc s short f) ∙ e)) in
    let siz : stands s marker SIZ ≡ true = holds (stands s marker SIZ) (λ f. refused_header (sym (judged_no_siz s short soc f) ∙ e)) in
    (soc, siz, holds (siz_whole s) (λ f. refused_header (sym (cut_judged s siz f short soc) ∙ e)))

-- And where the check is refused by one of these, the main header's reading is refused by the same, unless it is too long for that.
pub header_refuses : (s : List ℕ) (r : Refusal) → components_read s ≡ Err r → refusal_number r ≤ 3 → length s ≤ 0xffff_ffff → judged s ≡ Err r
unfolding components_read
header_refuses s r e few short =
    let P : Result Components Refusal → Type 0 = λ x. x ≡ Err r → judged s ≡ Err r in
    let other : (why : Reason) → 3 < number_of why → P (Err (refusal why marker)) = λ why h e. let same : why ≡ r.reason = cc in absurd (omega (arith, ap number_of same)) in
    by_test P (stands s 0 SOC)
    (λ soc. by_test P (stands s marker SIZ)
    (λ siz. by_test P (siz_whole s)
    (λ _. by_test P (count_held s)
    (λ _. by_test P (all_apart s (csiz s marker)) (λ _. by_test P (ordered (image_area s)) (λ _ e. absurd (refused_accepts (sym e))) (λ _. other ImageEndsBeforeItStarts (omega arith))) (λ _. other SubsamplingOf0 (omega arith)))
    (λ _. other ComponentsNotHeld (omega arith)))
    (λ f e. cut_judged s siz f short soc ∙ (cc)))
    (λ f e. judged_no_siz s short soc f ∙ (cc)))
    (λ f e. judged_no_soc s short f ∙ (cc))
    e
