-- A tile kept in its place. The header for it describes one tile by B.3, with the extent that the tile had, and no other; to rewrite that header again for
-- tile 0 changes nothing; and where Annex B's rule cuts a tile that starts at 0 both write the same.
use Prim.Native.Nat.{ℕ, ◌+◌, ◌-◌, ◌/◌, ◌%◌, ◌^◌, ◌≤◌, ◌<◌}
use native.Mathlib.Nat.{zero-mul, one-mul}
use native.Mathlib.Omega.{arith}
use mathlib.Core.Path.{◌≡◌, refl, sym, ap, ◌∙◌}
use mathlib.Core.Bool.{false, ◌&&◌}
use mathlib.Core.List.{List, [], ◌∷◌, ◌++◌, append-nil}
use lib.ListN.{length, get_or, take}
use lib.Dec.{leb, eqb}
use borrow.Author.Tests.{leb-true, leb-false, eqb-true, eqb-false}
use Rattle.std.specs.Prelude.{Option, Some, None, Result, Ok, Err}
use Rattle.numbers.specs.Bytes.{be, put}
use Rattle.numbers.specs.Rows.{Row, row, bytes_of_rows, widths}
use Rattle.numbers.proofs.BytesLaws.{be_put, be_put_before, be_put_after, be_bound, put_again, ceil_same}
use Rattle.numbers.proofs.Choice.{by_test, by_bool}
use Rattle.numbers.proofs.Rows.{be_row}
use Rattle.types.specs.Refusals.{refusal}
use Rattle.types.specs.Markers.{SIZ}
use Rattle.types.specs.Siz.{xtsiz, ytsiz}
use Rattle.types.specs.IsoSiz.{Size}
use Rattle.types.specs.declared.Area.{Area}
use Rattle.types.specs.declared.Refusal.{Refusal}
use Rattle.tile.specs.Siz.{marker, one_tile}
use Rattle.tile.specs.Rules.{image_area, placed_by}
use Rattle.tile.specs.Rewrite.{sized, moved, cut_by, size_in, tile_size, cut_to, rewritten}
use Rattle.tile.specs.Iso.{Gridded, num_xtiles, num_ytiles, column_of, row_of, start_of, end_of, area_of, cut_size}
use Rattle.tile.specs.declared.rules.Rule.{Rule}
use Rattle.tile.specs.declared.rules.Rule.TheVariants.{AnnexB, InPlace}
use Rattle.tile.proofs.RulesLaws.{kept_annex, tile_some, tile_within}
use Rattle.tile.proofs.RulesAgree.{tile_same}
use Rattle.tile.proofs.RewriteLaws.{size_refused, size_inside, size_short, size_other, size_siz}
use Rattle.tile.proofs.RewriteHeader.{length_one, length_rewritten}
use Rattle.tile.proofs.RewriteAgree.{Accepts}
use Rattle.tile.proofs.Iso.{Holds, size_held, Standard, one_rows, one_rows_lem, annex_standard, annex_only, annex_no_tile}
use Rattle.types.specs.declared.Reason.TheVariants.{NoSuchTile}

-- ---- by the standard's fields

-- a size by which there is one tile, with an area, by B.3
pub record OneTile (z : Size) (a : Area) : Type 0 where
  pub gridded : Gridded z
  pub columns : num_xtiles z ≡ 1
  pub rows : num_ytiles z ≡ 1
  pub area : area_of z 0 ≡ a

-- the only cell along an axis
start_same : (origin size : ℕ) → start_of origin origin size 0 ≡ origin
unfolding start_of
start_same origin size = omega (arith, zero-mul size)

end_same : (origin end : ℕ) → origin ≤ end → end_of end origin (end - origin) 0 ≡ end
unfolding end_of
end_same origin end h = omega (arith, one-mul (end - origin))

module _ (z : Size) (a : Area) (wide : a.x0 < a.x1) (high : a.y0 < a.y1) where
  one_column : num_xtiles (cut_size z a) ≡ 1
  unfolding num_xtiles cut_size
  one_column = ceil_same (a.x1 - a.x0) (omega arith)

  one_row : num_ytiles (cut_size z a) ≡ 1
  unfolding num_ytiles cut_size
  one_row = ceil_same (a.y1 - a.y0) (omega arith)

  one_area : area_of (cut_size z a) 0 ≡ a
  unfolding area_of column_of row_of cut_size
  one_area =
      let column : 0 % num_xtiles (cut_size z a) ≡ 0 = ap (λ (n : ℕ). 0 % n) one_column in
      let row : 0 / num_xtiles (cut_size z a) ≡ 0 = ap (λ (n : ℕ). 0 / n) one_column in
      λ i. record {
        x0 = (ap (start_of a.x0 a.x0 (a.x1 - a.x0)) column ∙ start_same a.x0 (a.x1 - a.x0)) i;
        y0 = (ap (start_of a.y0 a.y0 (a.y1 - a.y0)) row ∙ start_same a.y0 (a.y1 - a.y0)) i;
        x1 = (ap (end_of a.x1 a.x0 (a.x1 - a.x0)) column ∙ end_same a.x0 a.x1 (omega arith)) i;
        y1 = (ap (end_of a.y1 a.y0 (a.y1 - a.y0)) row ∙ end_same a.y0 a.y1 (omega arith)) i;
      }

  -- An image that is one tile, in any area with a point, is just that.
  pub one_tile_lem : OneTile (cut_size z a) a
  unfolding cut_size
  one_tile_lem =
      record {
        gridded =
            record {
              Xsiz = wide;
              Ysiz = high;
              XTsiz = omega arith;
              YTsiz = omega arith;
              XTOsiz = (omega arith, omega arith);
              YTOsiz = (omega arith, omega arith);
            };
        columns = one_column;
        rows = one_row;
        area = one_area;
      }

-- ---- a header that is cut

whole_cut : {a : Area} → ◌≡◌ {A = Result (Option Area) Refusal} (Ok None) (Ok (Some a)) → ⊥
whole_cut e = cc

refused_cut : {r : Refusal} {a : Area} → ◌≡◌ {A = Result (Option Area) Refusal} (Err r) (Ok (Some a)) → ⊥
refused_cut e = cc

whole_refused : {r : Refusal} → ◌≡◌ {A = Result (Option Area) Refusal} (Ok None) (Err r) → ⊥
whole_refused e = cc

cut_same : {a b : Area} → ◌≡◌ {A = Result (Option Area) Refusal} (Ok (Some a)) (Ok (Some b)) → a ≡ b
cut_same e = cc

-- by a rule, to an area: it is long enough, has SIZ, and the rule tells its tile
pub record CutBy (rule : Rule) (h : List ℕ) (tile : ℕ) (b : Area) : Type 0 where
  pub long : 40 ≤ length h
  pub siz : be 2 h marker ≡ SIZ
  pub area : Area
  pub told : placed_by rule h tile ≡ Ok area
  pub cut : cut_by rule area (xtsiz h marker) (ytsiz h marker) ≡ Ok (Some b)

module _ (rule : Rule) (h : List ℕ) (tile : ℕ) (b : Area) where
  told_by_lem : 40 ≤ length h → be 2 h marker ≡ SIZ → (p : Result Area Refusal) → placed_by rule h tile ≡ p → size_in rule h tile ≡ Ok (Some b) → CutBy rule h tile b
  told_by_lem long siz (Ok a) f e = record { long = long; siz = siz; area = a; told = f; cut = sym (size_inside rule h tile a f) ∙ e }
  told_by_lem long siz (Err r) f e = absurd (refused_cut (sym (size_refused rule h tile r f) ∙ e))

  pub cut_by_lem : tile_size rule h tile ≡ Ok (Some b) → CutBy rule h tile b
  cut_by_lem e =
      by_bool (leb 40 (length h))
      (λ l. let long = leb-true _ _ l in
      by_bool (eqb (be 2 h marker) SIZ)
      (λ m. let siz = eqb-true _ _ m in told_by_lem long siz (placed_by rule h tile) refl (sym (size_siz rule h tile long siz) ∙ e))
      (λ m. absurd (whole_cut (sym (size_other rule h tile long (eqb-false _ _ m)) ∙ e))))
      (λ l. absurd (whole_cut (sym (size_short rule h tile (leb-false _ _ l)) ∙ e)))

-- ---- kept in its place

-- each element is a byte, as in every slice
abbrev pub AllBytes : List ℕ → Type 0
AllBytes h = (i : ℕ) → get_or h i 0 < 256

-- a header whose tile lies in an area by Annex B
pub record Kept (h : List ℕ) (tile : ℕ) (a : Area) : Type 0 where
  pub long : 40 ≤ length h
  pub siz : be 2 h marker ≡ SIZ
  pub told : placed_by AnnexB h tile ≡ Ok a

-- It is cut to that area, full size too.
pub kept_cut : {h : List ℕ} {tile : ℕ} {a : Area} → Kept h tile a → tile_size InPlace h tile ≡ Ok (Some a)
unfolding cut_by
kept_cut {h} {tile} {a} k = size_siz InPlace h tile k.long k.siz ∙ size_inside InPlace h tile a (kept_annex h tile ∙ k.told)

-- And only such a one is cut.
pub cut_kept : (h : List ℕ) (tile : ℕ) (a : Area) → tile_size InPlace h tile ≡ Ok (Some a) → Kept h tile a
unfolding cut_by
cut_kept h tile a e =
    let c : CutBy InPlace h tile a = cut_by_lem InPlace h tile a e in
    record { long = c.long; siz = c.siz; told = sym (kept_annex h tile) ∙ c.told ∙ ap Ok (cut_same c.cut) }

module _ (h : List ℕ) (tile : ℕ) (a : Area) (bytes : AllBytes h) (k : Kept h tile a) where
  some : (a.x0 < a.x1) × (a.y0 < a.y1)
  some = tile_some h tile a k.told

  pub kept_written : rewritten InPlace h tile ≡ put h 8 (one_tile a)
  unfolding rewritten cut_to
  kept_written = ap (λ (s : Result (Option Area) Refusal). cut_to s h) (kept_cut k)

  -- what stands in front of the eight fields, and behind them, stays
  pub kept_front : (n at : ℕ) → at + n ≤ 8 → be n (rewritten InPlace h tile) at ≡ be n h at
  kept_front n at l = ap (λ (s : List ℕ). be n s at) kept_written ∙ be_put_before n h 8 (one_tile a) at (omega (arith, k.long)) l

  pub kept_behind : (n at : ℕ) → 40 ≤ at → be n (rewritten InPlace h tile) at ≡ be n h at
  kept_behind n at l =
      let there : 8 + (length (one_tile a) + (at - 40)) ≡ at = omega (arith, length_one a) in
      ap (λ (s : List ℕ). be n s at) kept_written
      ∙ ap (be n (put h 8 (one_tile a))) (sym there)
      ∙ be_put_after n h 8 (one_tile a) (at - 40) (omega (arith, k.long))
      ∙ ap (be n h) there

  -- no field passes 32 bits, as no field of the image does
  ends : (a.x1 < 2 ^ 32) × (a.y1 < 2 ^ 32)
  unfolding image_area
  ends = let i = tile_within AnnexB h tile a k.told in (omega (arith, i.right, be_bound 4 h 8 bytes), omega (arith, i.bottom, be_bound 4 h 12 bytes))

  -- a field is the row behind so many
  field : (before : List Row) (value : ℕ) (rest : List Row) → one_rows a ≡ before ++ (row 4 value ∷ rest) → value < 2 ^ 32 → widths before + 4 ≤ 32
      → be 4 (rewritten InPlace h tile) (8 + widths before) ≡ value
  field before value rest e small inside =
      ap (λ (s : List ℕ). be 4 s (8 + widths before)) kept_written
      ∙ be_put 4 h 8 (one_tile a) (widths before) (omega (arith, k.long)) (omega (arith, length_one a))
      ∙ ap (λ (s : List ℕ). be 4 s (widths before)) (one_rows_lem a ∙ ap bytes_of_rows e ∙ sym (append-nil _))
      ∙ be_row before 4 value rest [] small

  -- The eight fields that it writes hold the tile as the whole image.
  pub kept_holds : (z : Size) → Holds (cut_size z a) (rewritten InPlace h tile)
  unfolding cut_size widths
  kept_holds z =
      let before : ℕ → List Row = λ n. take n (one_rows a) in
      let e = ends in
      let s = some in
      record {
        Xsiz = field (before 0) a.x1 _ refl e.0 (omega arith);
        Ysiz = field (before 1) a.y1 _ refl e.1 (omega arith);
        XOsiz = field (before 2) a.x0 _ refl (omega arith) (omega arith);
        YOsiz = field (before 3) a.y0 _ refl (omega arith) (omega arith);
        XTsiz = field (before 4) (a.x1 - a.x0) _ refl (omega arith) (omega arith);
        YTsiz = field (before 5) (a.y1 - a.y0) _ refl (omega arith) (omega arith);
        XTOsiz = field (before 6) a.x0 _ refl (omega arith) (omega arith);
        YTOsiz = field (before 7) a.y0 _ refl (omega arith) (omega arith);
      }

  new : Size
  new = cut_size (size_held h (record { depth = 1; signed = false; XRsiz = 1; YRsiz = 1 })) a

  new_holds : Holds new (rewritten InPlace h tile)
  unfolding new
  new_holds = kept_holds _

  -- its image is the tile
  pub kept_image : image_area (rewritten InPlace h tile) ≡ a
  unfolding image_area new cut_size
  kept_image = λ i. record { x0 = new_holds.XOsiz i; y0 = new_holds.YOsiz i; x1 = new_holds.Xsiz i; y1 = new_holds.Ysiz i }

  -- no other does
  held_is : (z : Size) → Holds z (rewritten InPlace h tile) → cut_size z a ≡ z
  unfolding cut_size
  held_is z y =
      let x : Holds (cut_size z a) (rewritten InPlace h tile) = kept_holds z in
      λ i. record {
        Rsiz = z.Rsiz;
        Xsiz = (sym x.Xsiz ∙ y.Xsiz) i;
        Ysiz = (sym x.Ysiz ∙ y.Ysiz) i;
        XOsiz = (sym x.XOsiz ∙ y.XOsiz) i;
        YOsiz = (sym x.YOsiz ∙ y.YOsiz) i;
        XTsiz = (sym x.XTsiz ∙ y.XTsiz) i;
        YTsiz = (sym x.YTsiz ∙ y.YTsiz) i;
        XTOsiz = (sym x.XTOsiz ∙ y.XTOsiz) i;
        YTOsiz = (sym x.YTOsiz ∙ y.YTOsiz) i;
        first = z.first;
        others = z.others;
      }

  -- The new header describes one tile by B.3, with the extent that B.3 gave the tile by the old one, and no other.
  pub kept_standard : (y z : Size) → Holds y h → Holds z (rewritten InPlace h tile) → OneTile z (area_of y tile)
  kept_standard y z old new =
      let s : Standard y h old tile a = annex_only y h old tile a k.told in
      rw (← held_is z new, ← s.area) (one_tile_lem z a some.0 some.1)

  new_one : OneTile new a
  unfolding new
  new_one = one_tile_lem _ a some.0 some.1

  -- So it is by our rule: tile 0 lies there, and any other index is 31.
  pub kept_told : placed_by AnnexB (rewritten InPlace h tile) 0 ≡ Ok a
  kept_told =
      annex_standard new (rewritten InPlace h tile) new_holds 0 new_one.gridded (rw (new_one.columns, new_one.rows) (omega arith)) ∙ ap Ok new_one.area

  pub kept_alone : (other : ℕ) → 1 ≤ other → placed_by AnnexB (rewritten InPlace h tile) other ≡ Err (refusal NoSuchTile marker)
  kept_alone other more = annex_no_tile new (rewritten InPlace h tile) new_holds other new_one.gridded (rw (new_one.columns, new_one.rows) more)

  -- And it is kept there again.
  pub kept_again : Kept (rewritten InPlace h tile) 0 a
  kept_again = record { long = omega (arith, length_rewritten InPlace h tile, k.long); siz = kept_front 2 2 (omega arith) ∙ k.siz; told = kept_told }

  written_again : rewritten InPlace (rewritten InPlace h tile) 0 ≡ rewritten InPlace h tile
  unfolding rewritten cut_to
  written_again =
      ap (λ (s : Result (Option Area) Refusal). cut_to s (rewritten InPlace h tile)) (kept_cut kept_again)
      ∙ ap (λ (s : List ℕ). put s 8 (one_tile a)) kept_written
      ∙ put_again h 8 (one_tile a) (omega (arith, k.long, length_one a))
      ∙ sym kept_written

-- ---- rewriting again

-- a header that stays as it is for a tile does so for every tile
module _ (h : List ℕ) (tile other : ℕ) where
  in_place_whole : (p : Result Area Refusal) → placed_by InPlace h tile ≡ p → size_in InPlace h tile ≡ Ok None → ⊥
  unfolding cut_by
  in_place_whole (Ok a) f e = whole_cut (sym (sym (size_inside InPlace h tile a f) ∙ e))
  in_place_whole (Err r) f e = whole_refused (sym (sym (size_refused InPlace h tile r f) ∙ e))

  stays : tile_size InPlace h tile ≡ Ok None → tile_size InPlace h other ≡ Ok None
  stays e =
      by_bool (leb 40 (length h))
      (λ l. let long = leb-true _ _ l in
      by_bool (eqb (be 2 h marker) SIZ)
      (λ m. absurd (in_place_whole (placed_by InPlace h tile) refl (sym (size_siz InPlace h tile long (eqb-true _ _ m)) ∙ e)))
      (λ m. size_other InPlace h other long (eqb-false _ _ m)))
      (λ l. size_short InPlace h other (leb-false _ _ l))

-- what rewriting a header again for tile 0 gives: it accepts with the same size, and changes nothing
pub record Again (h : List ℕ) (tile : ℕ) : Type 0 where
  pub size : tile_size InPlace (rewritten InPlace h tile) 0 ≡ tile_size InPlace h tile
  pub header : rewritten InPlace (rewritten InPlace h tile) 0 ≡ rewritten InPlace h tile

-- Where a rewrite accepts, rewriting the result for tile 0 accepts and changes nothing.
pub rewrite_again : (h : List ℕ) (tile : ℕ) → AllBytes h → Accepts (tile_size InPlace h tile) → Again h tile
unfolding rewritten cut_to
rewrite_again h tile bytes accepts = by (tile_size InPlace h tile) refl
  where
    by : (s : Result (Option Area) Refusal) → tile_size InPlace h tile ≡ s → Again h tile
    by (Ok None) e =
        let same : rewritten InPlace h tile ≡ h = ap (λ (s : Result (Option Area) Refusal). cut_to s h) e in
        let again : tile_size InPlace h 0 ≡ Ok None = stays h tile 0 e in
        record {
          size = ap (λ (x : List ℕ). tile_size InPlace x 0) same ∙ again ∙ sym e;
          header = ap (λ (x : List ℕ). rewritten InPlace x 0) same ∙ ap (λ (s : Result (Option Area) Refusal). cut_to s h) again ∙ sym same;
        }
    by (Ok (Some a)) e =
        let k : Kept h tile a = cut_kept h tile a e in
        record { size = kept_cut (kept_again h tile a bytes k) ∙ sym e; header = written_again h tile a bytes k }
    by (Err r) e = absurd (accepts r e)

-- ---- beside Annex B's rule

moved_zero : (a b : Area) (xt yt : ℕ) → a.x0 ≡ 0 → a.y0 ≡ 0 → moved a xt yt ≡ Ok (Some b) → a ≡ b
unfolding moved sized
moved_zero a b xt yt x y =
    by_test (λ (s : Result (Option Area) Refusal). s ≡ Ok (Some b) → a ≡ b) (eqb (a.x1 - a.x0) xt && eqb (a.y1 - a.y0) yt)
    (λ _ e. absurd (whole_cut e))
    (λ _ e. let right : a.x1 ≡ a.x1 - a.x0 = omega arith in
    let bottom : a.y1 ≡ a.y1 - a.y0 = omega arith in
    (λ i. record { x0 = x i; y0 = y i; x1 = right i; y1 = bottom i }) ∙ cut_same e)

-- Where Annex B's rule cuts a tile that starts at 0, to keep it in its place is the same.
pub zero_agrees : (h : List ℕ) (tile : ℕ) (a b : Area) → placed_by AnnexB h tile ≡ Ok a → a.x0 ≡ 0 → a.y0 ≡ 0 → tile_size AnnexB h tile ≡ Ok (Some b)
    → rewritten InPlace h tile ≡ rewritten AnnexB h tile
unfolding rewritten cut_by
zero_agrees h tile a b told x y e =
    let c : CutBy AnnexB h tile b = cut_by_lem AnnexB h tile b e in
    let same : c.area ≡ a = tile_same (sym c.told ∙ told) in
    let there : a ≡ b = moved_zero a b _ _ x y (ap (λ (d : Area). moved d (xtsiz h marker) (ytsiz h marker)) (sym same) ∙ c.cut) in
    let k : Kept h tile b = record { long = c.long; siz = c.siz; told = told ∙ ap Ok there } in
    ap (λ (s : Result (Option Area) Refusal). cut_to s h) (kept_cut k ∙ sym e)
