-- Areas within one another: what a tile gives lies in what the image gives, before and after it is divided.
use Prim.Native.Nat.{ℕ, ◌+◌, ◌≤◌, ◌<◌}
use native.Mathlib.Omega.{arith}
use mathlib.Core.Path.{◌≡◌, refl, ap, sym, ◌∙◌}
use mathlib.Core.Bool.{true, ◌&&◌, and-eq-true_iff}
use mathlib.Core.List.{List}
use lib.ListN.{length, get_or}
use lib.Dec.{leb, ltb}
use borrow.Author.Tests.{leb-true}
use Rattle.std.specs.Prelude.{Option, Some, None, Result, Ok, Err}
use Rattle.numbers.proofs.BytesLaws.{ceil_mono, ceil_one}
use Rattle.numbers.proofs.Choice.{by_test}
use Rattle.types.specs.Siz.{csiz, component}
use Rattle.types.specs.Area.{Inside}
use Rattle.types.specs.declared.Area.{Area}
use Rattle.types.specs.declared.Refusal.{Refusal}
use Rattle.tile.specs.Siz.{marker}
use Rattle.tile.specs.Rules.{image_area, placed_by}
use Rattle.tile.specs.declared.rules.Rule.{Rule}
use Rattle.tile.proofs.RulesLaws.{tile_within}
use Rattle.reader.specs.Components.{apart, components_read, at_tile, components_in_tile, divided, component_at, is_there, component_in, chosen, component_of, component_in_tile}
use Rattle.reader.specs.declared.components.Components.{Components}
use Rattle.reader.specs.declared.components.ComponentInfo.{ComponentInfo}
use Rattle.reader.proofs.ComponentsLaws.{refused_accepts, accepted}

-- ---- one area

-- An area that lies in another does so in a component's samples too.
pub divided_inside : {a b : Area} {xr yr : ℕ} → 0 < xr → 0 < yr → Inside a b → Inside (divided a xr yr) (divided b xr yr)
unfolding divided
divided_inside x y i =
    record {
      left = ceil_mono _ _ x i.left;
      wide = ceil_mono _ _ x i.wide;
      right = ceil_mono _ _ x i.right;
      top = ceil_mono _ _ y i.top;
      high = ceil_mono _ _ y i.high;
      bottom = ceil_mono _ _ y i.bottom;
    }

-- A component with a sample at every place has the area itself.
pub divided_one : (a : Area) → divided a 1 1 ≡ a
unfolding divided
divided_one a = λ i. record { x0 = ceil_one a.x0 i; y0 = ceil_one a.y0 i; x1 = ceil_one a.x1 i; y1 = ceil_one a.y1 i }

-- Every byte gives a depth of 1 to 128, where the standard has 1 to 38.
pub depth_some : (s : List ℕ) (a : Area) (at : ℕ) → (1 ≤ (component_at s a at).bits) × ((component_at s a at).bits ≤ 128)
unfolding component_at
depth_some s a at = (omega arith, omega arith)

-- ---- a tile

-- a check of a tile beside one of the image: both accept, with one count and an area in the other
pub record InImage (s : List ℕ) (t : Components) : Type 0 where
  pub image : Components
  pub read : components_read s ≡ Ok image
  pub count : t.count ≡ image.count
  pub inside : Inside t.area image.area

in_image : (rule : Rule) (s : List ℕ) (tile : ℕ) (t : Components) (r : Result Components Refusal) (p : Result Area Refusal) → components_read s ≡ r → placed_by rule s tile ≡ p
    → at_tile r p ≡ Ok t → InImage s t
unfolding at_tile
in_image rule s tile t (Ok i) (Ok a) e f g =
    let n : i.count ≡ t.count = cc in
    let p : a ≡ t.area = cc in
    let q : image_area s ≡ i.area = sym (accepted s i e).area in
    record { image = i; read = e; count = sym n; inside = rw (← p, ← q) (tile_within rule s tile a f) }
in_image rule s tile t (Ok i) (Err r) e f g = absurd (refused_accepts g)
in_image rule s tile t (Err r) p e f g = absurd (refused_accepts g)

-- Where a tile is accepted the image is, with the same count, and the tile's area lies in the image's.
pub tile_inside : (rule : Rule) (s : List ℕ) (tile : ℕ) (t : Components) → components_in_tile rule s tile ≡ Ok t → InImage s t
unfolding components_in_tile
tile_inside rule s tile t = in_image rule s tile t (components_read s) (placed_by rule s tile) refl refl

-- ---- a component

-- what a component that is found says
pub record Found (s : List ℕ) (a : Area) (k : ℕ) (c : ComponentInfo) : Type 0 where
  pub there : is_there s k ≡ true
  pub info : c ≡ component_at s a (component marker k)

nothing_found : {c : ComponentInfo} → ◌≡◌ {A = Result (Option ComponentInfo) Refusal} (Ok None) (Ok (Some c)) → ⊥
nothing_found e = let z : ◌≡◌ {A = ℕ} 0 1 = cc in omega arith

pub refused_found : {r : Refusal} {c : ComponentInfo} → ◌≡◌ {A = Result (Option ComponentInfo) Refusal} (Err r) (Ok (Some c)) → ⊥
refused_found e = let z : ◌≡◌ {A = ℕ} 0 1 = cc in omega arith

pub found : (s : List ℕ) (a : Area) (k : ℕ) (c : ComponentInfo) → component_in s a k ≡ Ok (Some c) → Found s a k c
unfolding component_in
found s a k c =
    by_test (λ (r : Result (Option ComponentInfo) Refusal). r ≡ Ok (Some c) → Found s a k c) (is_there s k)
    (λ t e. let p : component_at s a (component marker k) ≡ c = cc in record { there = t; info = sym p })
    (λ _ e. absurd (nothing_found e))

pub there_in : (s : List ℕ) (a : Area) (k : ℕ) → is_there s k ≡ true → component_in s a k ≡ Ok (Some (component_at s a (component marker k)))
unfolding component_in
there_in s a k t = rw t

-- a component that is there can be divided by
pub there_apart : (s : List ℕ) (k : ℕ) → is_there s k ≡ true → (0 < get_or s (component marker k + 1) 0) × (0 < get_or s (component marker k + 2) 0)
unfolding is_there apart
there_apart s k t =
    let b : leb 1 (get_or s (component marker k + 1) 0) && leb 1 (get_or s (component marker k + 2) 0) ≡ true =
    ((and-eq-true_iff (leb (component marker k + 3) (length s)) _).0 ((and-eq-true_iff (ltb k (csiz s marker)) _).0 t).1).1 in
    let both = (and-eq-true_iff (leb 1 (get_or s (component marker k + 1) 0)) _).0 b in
    (leb-true _ _ both.0, leb-true _ _ both.1)

-- a component in a tile beside the same in the image: the same samples, and an area in the other
pub record InWhole (s : List ℕ) (k : ℕ) (c : ComponentInfo) : Type 0 where
  pub whole : ComponentInfo
  pub found : component_of s k ≡ Ok (Some whole)
  pub bits : c.bits ≡ whole.bits
  pub sign : c.is_signed ≡ whole.is_signed
  pub xrsiz : c.xrsiz ≡ whole.xrsiz
  pub yrsiz : c.yrsiz ≡ whole.yrsiz
  pub inside : Inside c.area whole.area

in_whole : (rule : Rule) (s : List ℕ) (tile k : ℕ) (c : ComponentInfo) (r : Result Components Refusal) → components_in_tile rule s tile ≡ r → chosen r s k ≡ Ok (Some c)
    → InWhole s k c
unfolding chosen component_of component_at
in_whole rule s tile k c (Ok t) e g =
    let i : InImage s t = tile_inside rule s tile t e in
    let f : Found s t.area k c = found s t.area k c g in
    let step = there_apart s k f.there in
    let p : c ≡ component_at s t.area (component marker k) = f.info in
    record {
      whole = component_at s i.image.area (component marker k);
      found = ap (λ (r : Result Components Refusal). chosen r s k) i.read ∙ there_in s i.image.area k f.there;
      bits = ap (λ (c : ComponentInfo). c.bits) p;
      sign = ap (λ (c : ComponentInfo). c.is_signed) p;
      xrsiz = ap (λ (c : ComponentInfo). c.xrsiz) p;
      yrsiz = ap (λ (c : ComponentInfo). c.yrsiz) p;
      inside = rw p (divided_inside step.0 step.1 i.inside);
    }
in_whole rule s tile k c (Err r) e g = absurd (refused_found g)

-- Where a tile has a component the image has it, with the same depth, sign and steps, and the tile's part lies in the image's.
pub component_inside : (rule : Rule) (s : List ℕ) (tile k : ℕ) (c : ComponentInfo) → component_in_tile rule s tile k ≡ Ok (Some c) → InWhole s k c
unfolding component_in_tile
component_inside rule s tile k c = in_whole rule s tile k c (components_in_tile rule s tile) refl
