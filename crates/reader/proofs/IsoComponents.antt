-- Where the component sizes agree with the standard: for a SIZ by its tables the check accepts, and each component has its depth, sign, steps and
-- area. A component's bytes are read where the rows before it end.
use Prim.Native.Nat.{ℕ, zero, suc, ◌+◌, ◌*◌, ◌^◌, ◌≤◌, ◌<◌}
use native.Mathlib.Omega.{arith}
use mathlib.Core.Path.{◌≡◌, refl, sym, ap, ap₂, subst, ◌∙◌}
use mathlib.Core.Bool.{true}
use mathlib.Core.List.{List, [], ◌∷◌, ◌++◌, append_assoc}
use lib.ListN.{length, get_or, take, drop, length-append}
use lib.Seq.{split_at, length-take-le}
use lib.Dec.{leb}
use borrow.Author.Tests.{le-leb, lt-leb, eq-eqb}
use Rattle.std.specs.Prelude.{Some, Result, Ok, Err}
use Rattle.numbers.specs.Rows.{Row, row, bytes_of_rows, widths}
use Rattle.numbers.proofs.Rows.{length_rows, be_row, be_one}
use Rattle.types.specs.Markers.{SOC, SIZ}
use Rattle.types.specs.Siz.{lsiz, csiz, component}
use Rattle.types.specs.IsoSiz.{Component, ssiz_of, Size, Csiz, component_rows, siz_rows, TileRanges}
use Rattle.types.specs.Refusals.{refusal}
use Rattle.types.specs.declared.Area.{Area}
use Rattle.types.proofs.IsoSiz.{Fields, ssiz_byte, fields_standard}
use Rattle.header.specs.Step.{segment_end}
use Rattle.header.specs.Parse.{stands}
use Rattle.header.proofs.ParseLaws.{stands_there}
use Rattle.tile.specs.Siz.{marker}
use Rattle.tile.specs.Rules.{image_area, placed_by}
use Rattle.tile.specs.Iso.{num_xtiles, num_ytiles, area_of, header_of}
use Rattle.tile.specs.declared.rules.Rule.{Rule}
use Rattle.tile.specs.declared.rules.Rule.TheVariants.{AnnexB}
use Rattle.tile.proofs.Iso.{area_standard}
use Rattle.reader.specs.Components.{siz_whole, count_held, apart, all_apart, ordered, components_read, at_tile, components_in_tile, divided, component_at, component_in, chosen, component_of, component_in_tile}
use Rattle.reader.specs.Iso.{ComponentRanges, EachRanges, AllRanges, image_of, info_of}
use Rattle.reader.proofs.Iso.{ssiz_bits, ssiz_sign}
use Rattle.reader.proofs.ComponentsSiz.{listed}
use Rattle.reader.specs.declared.components.Components.{Components}
use Rattle.types.specs.declared.Refusal.{Refusal}
use Rattle.types.specs.declared.Reason.TheVariants.{ComponentsNotHeld}

-- ---- rows

rows_append : (a b : List Component) → component_rows (a ++ b) ≡ component_rows a ++ component_rows b
unfolding component_rows
rows_append [] b = refl
rows_append (c ∷ a) b = rw (rows_append a b)

widths_append : (a b : List Row) → widths (a ++ b) ≡ widths a + widths b
unfolding widths
widths_append [] b = omega arith
widths_append (r ∷ a) b = rw (widths_append a b) (omega arith)

widths_components : (l : List Component) → widths (component_rows l) ≡ 3 * length l
unfolding component_rows widths
widths_components [] = refl
widths_components (c ∷ l) = rw (widths_components l) (omega arith)

-- a row of one byte is read where the rows before it end
byte_row : (rows before after : List Row) (value at : ℕ) (rest : List ℕ) → rows ≡ before ++ (row 1 value ∷ after) → widths before ≡ at → value < 256
    → get_or (bytes_of_rows rows ++ rest) at 0 ≡ value
byte_row rows before after value at rest e w small =
    rw (e, ← w) (sym (be_one _ _) ∙ be_row before 1 value after rest small)

-- ---- a component's bytes

-- the rows before the components
fixed_rows : Size → List Row
fixed_rows z = take 13 (siz_rows z)

rows_fixed : (z : Size) → siz_rows z ≡ fixed_rows z ++ component_rows (z.first ∷ z.others)
unfolding fixed_rows siz_rows
rows_fixed z = refl

widths_fixed : (z : Size) → widths (fixed_rows z) ≡ 42
unfolding fixed_rows siz_rows widths
widths_fixed z = refl

length_header : (z : Size) (rest : List ℕ) → length (header_of z rest) ≡ 42 + 3 * Csiz z + length rest
length_header z rest =
    rw (length-append, length_rows, rows_fixed, widths_append, widths_fixed, widths_components) (omega arith)

-- the bytes of the component before which so many stand
module _ (z : Size) (rest : List ℕ) (front : List Component) (c : Component) (back : List Component) (split : z.first ∷ z.others ≡ front ++ (c ∷ back))
    (r : ComponentRanges c) where
  before : List Row
  before = fixed_rows z ++ component_rows front

  rows_split : siz_rows z ≡ before ++ (row 1 (ssiz_of c) ∷ row 1 c.XRsiz ∷ row 1 c.YRsiz ∷ component_rows back)
  unfolding before component_rows
  rows_split = rows_fixed z ∙ ap (λ (l : List Component). fixed_rows z ++ component_rows l) split ∙ ap (λ (l : List Row). fixed_rows z ++ l) (rows_append front (c ∷ back)) ∙ sym (append_assoc (fixed_rows z) (component_rows front) _)

  widths_before : widths before ≡ component marker (length front)
  unfolding before
  widths_before = rw (widths_append, widths_fixed, widths_components) (omega arith)

  byte_ssiz : get_or (header_of z rest) (component marker (length front)) 0 ≡ ssiz_of c
  byte_ssiz = byte_row (siz_rows z) before _ (ssiz_of c) _ rest rows_split widths_before (ssiz_byte c.signed c.depth r.depth)

  byte_xrsiz : get_or (header_of z rest) (component marker (length front) + 1) 0 ≡ c.XRsiz
  unfolding widths
  byte_xrsiz =
      byte_row (siz_rows z) (before ++ (row 1 (ssiz_of c) ∷ [])) _ c.XRsiz _ rest (rows_split ∙ sym (append_assoc before (row 1 (ssiz_of c) ∷ []) _))
      (rw (widths_append, widths_before)) (omega arith)

  byte_yrsiz : get_or (header_of z rest) (component marker (length front) + 2) 0 ≡ c.YRsiz
  unfolding widths
  byte_yrsiz =
      byte_row (siz_rows z) (before ++ (row 1 (ssiz_of c) ∷ row 1 c.XRsiz ∷ [])) _ c.YRsiz _ rest (rows_split ∙ sym (append_assoc before (row 1 (ssiz_of c) ∷ row 1 c.XRsiz ∷ []) _))
      (rw (widths_append, widths_before)) (omega arith)

  at_apart : apart (header_of z rest) (component marker (length front)) ≡ true
  unfolding apart
  at_apart = rw (byte_xrsiz, byte_yrsiz, le-leb 1 c.XRsiz r.XRsiz.0, le-leb 1 c.YRsiz r.YRsiz.0)

  at_standard : (a : Area) → component_at (header_of z rest) a (component marker (length front)) ≡ info_of c a
  unfolding component_at divided info_of
  at_standard a = rw (byte_ssiz, byte_xrsiz, byte_yrsiz, ssiz_bits c.signed c.depth r.depth, ssiz_sign c.signed c.depth r.depth)

one_ranges : (front : List Component) (c : Component) (back : List Component) → EachRanges (front ++ (c ∷ back)) → ComponentRanges c
unfolding EachRanges
one_ranges [] c back h = h.0
one_ranges (b ∷ front) c back h = one_ranges front c back h.1

-- ---- the check

soc_stands : (z : Size) (rest : List ℕ) → stands (header_of z rest) 0 SOC ≡ true
unfolding siz_rows widths
soc_stands z rest = stands_there (header_of z rest) 0 SOC (omega (arith, length_header z rest)) (be_row [] 2 SOC _ rest (omega arith))

siz_stands : (z : Size) (rest : List ℕ) → stands (header_of z rest) marker SIZ ≡ true
unfolding siz_rows widths
siz_stands z rest = stands_there (header_of z rest) marker SIZ (omega (arith, length_header z rest)) (be_row (take 1 (siz_rows z)) 2 SIZ _ rest (omega arith))

-- its length and its count are read back where the length's field holds it
module _ (z : Size) (rest : List ℕ) (fits : 38 + 3 * Csiz z < 2 ^ 16) where
  lsiz_standard : lsiz (header_of z rest) marker ≡ 38 + 3 * Csiz z
  unfolding siz_rows widths
  lsiz_standard = be_row (take 2 (siz_rows z)) 2 (38 + 3 * Csiz z) _ rest fits

  csiz_standard : csiz (header_of z rest) marker ≡ Csiz z
  unfolding siz_rows widths
  csiz_standard = be_row (take 12 (siz_rows z)) 2 (Csiz z) _ rest (omega arith)

  siz_whole_lem : siz_whole (header_of z rest) ≡ true
  unfolding siz_whole segment_end
  siz_whole_lem =
      rw (le-leb 6 (length (header_of z rest)) (omega (arith, length_header z rest)), le-leb (2 + (2 + lsiz (header_of z rest) marker)) (length (header_of z rest)) (omega (arith, lsiz_standard, length_header z rest)))

  count_standard : count_held (header_of z rest) ≡ leb (Csiz z) 16384
  unfolding count_held
  count_standard =
      rw (lsiz_standard, csiz_standard, le-leb 41 (38 + 3 * Csiz z) (omega arith), eq-eqb (38 + 3 * Csiz z) (38 + 3 * Csiz z) refl, le-leb 1 (Csiz z) (omega arith))

  -- More components than 16,384 are refused.
  pub too_many : 16384 < Csiz z → components_read (header_of z rest) ≡ Err (refusal ComponentsNotHeld marker)
  unfolding components_read
  too_many many = rw (soc_stands z rest, siz_stands z rest, siz_whole_lem, count_standard, lt-leb (Csiz z) 16384 many)

counted : (z : Size) (front : List Component) (c : Component) (back : List Component) → z.first ∷ z.others ≡ front ++ (c ∷ back) → length front < Csiz z
counted z front c back split = omega (arith, simp length-append at (ap length split))

module _ (z : Size) (rest : List ℕ) (g : AllRanges z) where
  fits : 38 + 3 * Csiz z < 2 ^ 16
  fits = omega arith

  kth_apart : (k : ℕ) → k < Csiz z → apart (header_of z rest) (component marker k) ≡ true
  kth_apart k h =
      let l : List Component = z.first ∷ z.others in
      let e : l ≡ take k l ++ (get_or l k z.first ∷ drop (suc k) l) = split_at l k z.first (omega arith) in
      let r : ComponentRanges (get_or l k z.first) = one_ranges (take k l) _ (drop (suc k) l) (subst EachRanges e g.each) in
      ap (λ (n : ℕ). apart (header_of z rest) (component marker n)) (sym (length-take-le k l (omega arith))) ∙ at_apart z rest (take k l) _ (drop (suc k) l) e r

  all_apart_lem : (n : ℕ) → n ≤ Csiz z → all_apart (header_of z rest) n ≡ true
  unfolding all_apart
  all_apart_lem zero h = refl
  all_apart_lem (suc n) h = rw (all_apart_lem n (omega arith), kth_apart n h)

  image_standard : image_area (header_of z rest) ≡ image_of z
  unfolding image_area image_of
  image_standard =
      let f : Fields z (header_of z rest) = fields_standard z rest g.image in
      λ i. record { x0 = f.XOsiz i; y0 = f.YOsiz i; x1 = f.Xsiz i; y1 = f.Ysiz i }

  forward : ordered (image_of z) ≡ true
  unfolding ordered image_of
  forward = rw (le-leb z.XOsiz z.Xsiz (omega arith), le-leb z.YOsiz z.Ysiz (omega arith))

  -- A SIZ by the standard is accepted, with its count and its area.
  pub components_standard : components_read (header_of z rest) ≡ Ok (record { count = Csiz z; area = image_of z })
  unfolding components_read
  components_standard =
      rw (soc_stands z rest, siz_stands z rest, siz_whole_lem z rest fits, count_standard z rest fits, le-leb (Csiz z) 16384 g.image.Csiz, csiz_standard z rest fits, all_apart_lem (Csiz z) (omega arith), ap ordered image_standard, forward, image_standard)

  -- the same in a tile, where a rule tells it at the standard's place: Annex B's for every tile of the grid, the original's as tile, proofs/Iso.antt, says
  pub components_tile_standard : (rule : Rule) (tile : ℕ) → placed_by rule (header_of z rest) tile ≡ Ok (area_of z tile)
      → components_in_tile rule (header_of z rest) tile ≡ Ok (record { count = Csiz z; area = area_of z tile })
  unfolding components_in_tile at_tile
  components_tile_standard rule tile told = ap₂ at_tile components_standard told

  -- ---- the k-th component, where so many stand before it

  module _ (front : List Component) (c : Component) (back : List Component) (split : z.first ∷ z.others ≡ front ++ (c ∷ back)) where
    within_standard : (a : Area) → component_in (header_of z rest) a (length front) ≡ Ok (Some (info_of c a))
    within_standard a =
        listed (header_of z rest) _ components_standard a (length front) (counted z front c back split)
        ∙ ap (λ p. Ok (Some p)) (at_standard z rest front c back split (one_ranges front c back (subst EachRanges split g.each)) a)

    -- It has its depth, sign and steps, and its part of the image.
    pub component_standard : component_of (header_of z rest) (length front) ≡ Ok (Some (info_of c (image_of z)))
    unfolding component_of chosen
    component_standard = ap (λ (r : Result Components Refusal). chosen r (header_of z rest) (length front)) components_standard ∙ within_standard (image_of z)

    -- And its part of a tile.
    pub component_tile_standard : (rule : Rule) (tile : ℕ) → placed_by rule (header_of z rest) tile ≡ Ok (area_of z tile)
        → component_in_tile rule (header_of z rest) tile (length front) ≡ Ok (Some (info_of c (area_of z tile)))
    unfolding component_in_tile chosen
    component_tile_standard rule tile told =
        ap (λ (r : Result Components Refusal). chosen r (header_of z rest) (length front)) (components_tile_standard rule tile told) ∙ within_standard (area_of z tile)

    -- By Annex B so for every tile of the grid.
    pub component_annex_standard : (tile : ℕ) → TileRanges z → tile < num_xtiles z * num_ytiles z
        → component_in_tile AnnexB (header_of z rest) tile (length front) ≡ Ok (Some (info_of c (area_of z tile)))
    component_annex_standard tile t inside = component_tile_standard AnnexB tile (area_standard z rest tile g.image t inside)

-- ---- the most components

pub most_components : (z : Size) (rest : List ℕ) → AllRanges z → Csiz z ≡ 16384 → components_read (header_of z rest) ≡ Ok (record { count = 16384; area = image_of z })
most_components z rest g e = components_standard z rest g ∙ ap (λ (n : ℕ). Ok (record { count = n; area = image_of z })) e

pub one_too_many : (z : Size) (rest : List ℕ) → Csiz z ≡ 16385 → components_read (header_of z rest) ≡ Err (refusal ComponentsNotHeld marker)
one_too_many z rest e = too_many z rest (omega arith) (omega arith)
