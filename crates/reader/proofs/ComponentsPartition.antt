-- A component in the tiles that Annex B tells: its extents adjoin along each axis, from one end of its extent in the image to the other, and each of its
-- samples lies in one tile. The tiles' areas do so (tile, proofs/AnnexBCells.antt and RulesPartition.antt), and both ends are divided by the same steps.
use Prim.Native.Nat.{ℕ, ◌+◌, ◌/◌, ◌%◌, ◌<◌}
use mathlib.Core.Path.{◌≡◌, refl, sym, ap, ◌∙◌}
use mathlib.Core.Bool.{true}
use mathlib.Core.List.{List}
use lib.ListN.{get_or}
use Rattle.std.specs.Prelude.{Some, Result, Ok, Err}
use Rattle.numbers.specs.Ceiling.{ceil_div}
use Rattle.types.specs.Siz.{component}
use Rattle.types.specs.Area.{Has}
use Rattle.types.specs.declared.Area.{Area}
use Rattle.tile.specs.Siz.{marker}
use Rattle.tile.specs.AnnexB.{across, down, cells_of, from_of, to_of, cell_area}
use Rattle.tile.specs.Rules.{image_area, placed_by}
use Rattle.tile.specs.declared.rules.Rule.{Rule}
use Rattle.tile.specs.declared.rules.Rule.TheVariants.{AnnexB}
use Rattle.tile.proofs.AnnexBLaws.{Laid, Found, column_inside, row_inside}
use Rattle.tile.proofs.AnnexBCells.{HasSample, cells_start, cells_adjoin, cells_end}
use Rattle.tile.proofs.RulesLaws.{annex_told}
use Rattle.tile.proofs.RulesPartition.{OneTile, samples_partition}
use Rattle.reader.specs.Components.{components_read, at_tile, components_in_tile, divided, component_at, is_there, chosen, component_of, component_in_tile}
use Rattle.reader.specs.declared.components.Components.{Components}
use Rattle.reader.specs.declared.components.ComponentInfo.{ComponentInfo}
use Rattle.reader.proofs.ComponentsLaws.{accepted, tile_found}
use Rattle.reader.proofs.ComponentsAreas.{found, there_in, there_apart, refused_found}
use Rattle.types.specs.declared.Refusal.{Refusal}

-- how far a component's samples lie apart, across and down
abbrev xrsiz : List ℕ → ℕ → ℕ
xrsiz s k = get_or s (component marker k + 1) 0

abbrev yrsiz : List ℕ → ℕ → ℕ
yrsiz s k = get_or s (component marker k + 2) 0

-- ---- a component in an area

-- a component of the image: the check accepts, and it is counted
record OfImage (s : List ℕ) (k : ℕ) (whole : ComponentInfo) : Type 0 where
  components : Components
  read : components_read s ≡ Ok components
  there : is_there s k ≡ true
  info : whole ≡ component_at s (image_area s) (component marker k)

of_image : (s : List ℕ) (k : ℕ) (whole : ComponentInfo) (r : Result Components Refusal) → components_read s ≡ r → chosen r s k ≡ Ok (Some whole) → OfImage s k whole
unfolding chosen
of_image s k whole (Ok c) e g =
    let f = found s c.area k whole g in
    record { components = c; read = e; there = f.there; info = f.info ∙ ap (λ (a : Area). component_at s a (component marker k)) (accepted s c e).area }
of_image s k whole (Err r) e g = absurd (refused_found g)

-- a component of a tile: where the tile lies
record OfTile (rule : Rule) (s : List ℕ) (tile k : ℕ) (c : ComponentInfo) : Type 0 where
  area : Area
  told : placed_by rule s tile ≡ Ok area
  info : c ≡ component_at s area (component marker k)

of_tile_lem : (rule : Rule) (s : List ℕ) (tile k : ℕ) (c : ComponentInfo) (r : Result Components Refusal) (p : Result Area Refusal) → placed_by rule s tile ≡ p → chosen (at_tile r p) s k ≡ Ok (Some c)
    → OfTile rule s tile k c
unfolding chosen at_tile
of_tile_lem rule s tile k c (Ok i) (Ok a) e g = record { area = a; told = e; info = (found s a k c g).info }
of_tile_lem rule s tile k c (Ok i) (Err r) e g = absurd (refused_found g)
of_tile_lem rule s tile k c (Err r) p e g = absurd (refused_found g)

in_tile : (rule : Rule) (s : List ℕ) (tile k : ℕ) (c : ComponentInfo) → component_in_tile rule s tile k ≡ Ok (Some c) → OfTile rule s tile k c
unfolding component_in_tile components_in_tile
in_tile rule s tile k c = of_tile_lem rule s tile k c (components_read s) (placed_by rule s tile) refl

-- ---- each sample in one tile

-- a tile in which a component has a sample, and no other tile does
pub record OneTileOf (s : List ℕ) (k px py : ℕ) : Type 0 where
  pub tile : ℕ
  pub component : ComponentInfo
  pub found : component_in_tile AnnexB s tile k ≡ Ok (Some component)
  pub has : Has component.area px py
  pub only : (u : ℕ) (c : ComponentInfo) → component_in_tile AnnexB s u k ≡ Ok (Some c) → Has c.area px py → u ≡ tile

module _ (s : List ℕ) (k : ℕ) (whole : ComponentInfo) (given : component_of s k ≡ Ok (Some whole)) where
  image : OfImage s k whole
  unfolding component_of
  image = of_image s k whole (components_read s) refl given

  tell : (rule : Rule) (tile : ℕ) (a : Area) → placed_by rule s tile ≡ Ok a → component_in_tile rule s tile k ≡ Ok (Some (component_at s a (component marker k)))
  unfolding component_in_tile chosen
  tell rule tile a e =
      ap (λ (r : Result Components Refusal). chosen r s k) (tile_found rule s tile image.components image.read a e) ∙ there_in s a k image.there

  -- Where there is a grid, each sample of a component lies in one of its tiles.
  pub component_partition : Laid (across s) → Laid (down s) → (px py : ℕ) → Has whole.area px py → OneTileOf s k px py
  unfolding component_at divided
  component_partition lx ly px py h =
      let xr : ℕ = xrsiz s k in
      let yr : ℕ = yrsiz s k in
      let steps = there_apart s k image.there in
      let i : Has (component_at s (image_area s) (component marker k)).area px py = rw image.info at h in
      let o : OneTile s (λ a. HasSample a xr yr px py) =
      samples_partition s lx ly xr yr steps.0 steps.1 px py (record { left = i.left; right = i.right; top = i.top; bottom = i.bottom }) in
      let m = o.has in
      record {
        tile = o.tile;
        component = component_at s o.area (component marker k);
        found = tell AnnexB o.tile o.area o.found;
        has = record { left = m.left; right = m.right; top = m.top; bottom = m.bottom };
        only = λ u c e q. let t : OfTile AnnexB s u k c = in_tile AnnexB s u k c e in
            let j : Has (component_at s t.area (component marker k)).area px py = rw t.info at q in
            o.only u t.area t.told (record { left = j.left; right = j.right; top = j.top; bottom = j.bottom });
      }

-- ---- they adjoin

-- columns of the grid
abbrev pub columns : List ℕ → ℕ
columns s = cells_of (across s)

abbrev pub rows : List ℕ → ℕ
rows s = cells_of (down s)

module _ (s : List ℕ) (tile k : ℕ) (c : ComponentInfo) (here : component_in_tile AnnexB s tile k ≡ Ok (Some c)) where
  own : OfTile AnnexB s tile k c
  own = in_tile AnnexB s tile k c here

  lies : Found (across s) (down s) tile own.area
  lies = annex_told s tile own.area own.told

  left_is : c.area.x0 ≡ ceil_div (from_of (across s) (tile % columns s)) (xrsiz s k)
  unfolding component_at divided cell_area
  left_is = ap (λ (i : ComponentInfo). i.area.x0) own.info ∙ ap (λ (a : Area). ceil_div a.x0 (xrsiz s k)) lies.area

  right_is : c.area.x1 ≡ ceil_div (to_of (across s) (tile % columns s)) (xrsiz s k)
  unfolding component_at divided cell_area
  right_is = ap (λ (i : ComponentInfo). i.area.x1) own.info ∙ ap (λ (a : Area). ceil_div a.x1 (xrsiz s k)) lies.area

  top_is : c.area.y0 ≡ ceil_div (from_of (down s) (tile / columns s)) (yrsiz s k)
  unfolding component_at divided cell_area
  top_is = ap (λ (i : ComponentInfo). i.area.y0) own.info ∙ ap (λ (a : Area). ceil_div a.y0 (yrsiz s k)) lies.area

  bottom_is : c.area.y1 ≡ ceil_div (to_of (down s) (tile / columns s)) (yrsiz s k)
  unfolding component_at divided cell_area
  bottom_is = ap (λ (i : ComponentInfo). i.area.y1) own.info ∙ ap (λ (a : Area). ceil_div a.y1 (yrsiz s k)) lies.area

module _ (s : List ℕ) (tile k : ℕ) (c : ComponentInfo) (here : component_in_tile AnnexB s tile k ≡ Ok (Some c)) where
  -- In the next column a component starts where it ends in this, and in the next row likewise.
  module _ (next : ℕ) (d : ComponentInfo) (there : component_in_tile AnnexB s next k ≡ Ok (Some d)) where
    pub columns_adjoin : next % columns s ≡ tile % columns s + 1 → c.area.x1 ≡ d.area.x0
    columns_adjoin e =
        let inside : tile % columns s + 1 < columns s = rw (← e) (column_inside _ _ next (lies s next k d there).inside) in
        right_is s tile k c here
        ∙ ap (λ (n : ℕ). ceil_div n (xrsiz s k)) (cells_adjoin (across s) (lies s tile k c here).columns (tile % columns s) inside ∙ ap (from_of (across s)) (sym e))
        ∙ sym (left_is s next k d there)

    pub rows_adjoin : next / columns s ≡ tile / columns s + 1 → c.area.y1 ≡ d.area.y0
    rows_adjoin e =
        let inside : tile / columns s + 1 < rows s = rw (← e) (row_inside _ _ next (lies s next k d there).inside) in
        bottom_is s tile k c here
        ∙ ap (λ (n : ℕ). ceil_div n (yrsiz s k)) (cells_adjoin (down s) (lies s tile k c here).rows (tile / columns s) inside ∙ ap (from_of (down s)) (sym e))
        ∙ sym (top_is s next k d there)

  -- In the first column it starts where it does in the image, and in the last it ends there; in the first and the last row likewise.
  module _ (whole : ComponentInfo) (given : component_of s k ≡ Ok (Some whole)) where
    whole_is : whole ≡ component_at s (image_area s) (component marker k)
    whole_is = (image s k whole given).info

    pub first_column : tile % columns s ≡ 0 → c.area.x0 ≡ whole.area.x0
    unfolding component_at divided image_area
    first_column e =
        left_is s tile k c here
        ∙ ap (λ (n : ℕ). ceil_div n (xrsiz s k)) (ap (from_of (across s)) e ∙ cells_start (across s) (lies s tile k c here).columns)
        ∙ sym (ap (λ (i : ComponentInfo). i.area.x0) whole_is)

    pub last_column : tile % columns s + 1 ≡ columns s → c.area.x1 ≡ whole.area.x1
    unfolding component_at divided image_area
    last_column e =
        right_is s tile k c here
        ∙ ap (λ (n : ℕ). ceil_div n (xrsiz s k)) (cells_end (across s) (lies s tile k c here).columns (tile % columns s) e)
        ∙ sym (ap (λ (i : ComponentInfo). i.area.x1) whole_is)

    pub first_row : tile / columns s ≡ 0 → c.area.y0 ≡ whole.area.y0
    unfolding component_at divided image_area
    first_row e =
        top_is s tile k c here
        ∙ ap (λ (n : ℕ). ceil_div n (yrsiz s k)) (ap (from_of (down s)) e ∙ cells_start (down s) (lies s tile k c here).rows)
        ∙ sym (ap (λ (i : ComponentInfo). i.area.y0) whole_is)

    pub last_row : tile / columns s + 1 ≡ rows s → c.area.y1 ≡ whole.area.y1
    unfolding component_at divided image_area
    last_row e =
        bottom_is s tile k c here
        ∙ ap (λ (n : ℕ). ceil_div n (yrsiz s k)) (cells_end (down s) (lies s tile k c here).rows (tile / columns s) e)
        ∙ sym (ap (λ (i : ComponentInfo). i.area.y1) whole_is)
