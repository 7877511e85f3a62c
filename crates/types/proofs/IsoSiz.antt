-- The fields of a SIZ directly after SOC are read where the standard's rows have them: each where the rows before it end.
use Prim.Native.Nat.{ℕ, ◌+◌, ◌-◌, ◌≤◌, ◌<◌}
use native.Mathlib.Omega.{arith}
use mathlib.Core.Path.{◌≡◌, sym, ◌∙◌}
use mathlib.Core.Bool.{Bool, true, false, cond}
use mathlib.Core.List.{List, ◌++◌}
use lib.ListN.{length, take, length-append}
use Rattle.numbers.specs.Bytes.{be}
use Rattle.numbers.specs.Rows.{Row, bytes_of_rows, widths}
use Rattle.numbers.proofs.Rows.{length_rows, be_row, be_one}
use Rattle.types.specs.Markers.{SIZ}
use Rattle.types.specs.Siz.{xsiz, ysiz, xosiz, yosiz, xtsiz, ytsiz, xtosiz, ytosiz, csiz, ssiz}
use Rattle.types.specs.IsoSiz.{Size, ssiz_of, Csiz, component_rows, siz_rows, Ranges, TileRanges}

-- the image's fields and the first component's
pub record Fields (z : Size) (s : List ℕ) : Type 0 where
  pub long : 43 ≤ length s
  pub marker : be 2 s 2 ≡ SIZ
  pub Xsiz : xsiz s 2 ≡ z.Xsiz
  pub Ysiz : ysiz s 2 ≡ z.Ysiz
  pub XOsiz : xosiz s 2 ≡ z.XOsiz
  pub YOsiz : yosiz s 2 ≡ z.YOsiz
  pub Csiz : csiz s 2 ≡ Csiz z
  pub Ssiz : ssiz s 2 ≡ ssiz_of z.first

-- the tiles' fields
pub record TileFields (z : Size) (s : List ℕ) : Type 0 where
  pub XTsiz : xtsiz s 2 ≡ z.XTsiz
  pub YTsiz : ytsiz s 2 ≡ z.YTsiz
  pub XTOsiz : xtosiz s 2 ≡ z.XTOsiz
  pub YTOsiz : ytosiz s 2 ≡ z.YTOsiz

-- Ssiz is a byte
pub ssiz_byte : (signed : Bool) (depth : ℕ) → (1 ≤ depth) × (depth ≤ 38) → cond signed 128 0 + (depth - 1) < 256
ssiz_byte true depth h = omega arith
ssiz_byte false depth h = omega arith

module _ (z : Size) (rest : List ℕ) (g : Ranges z) where
  pub fields_standard : Fields z (bytes_of_rows (siz_rows z) ++ rest)
  unfolding siz_rows component_rows widths
  fields_standard =
      let before : ℕ → List Row = λ k. take k (siz_rows z) in
      record {
        long = rw (length-append, length_rows) (omega arith);
        marker = be_row (before 1) 2 SIZ _ rest (omega arith);
        Xsiz = be_row (before 4) 4 z.Xsiz _ rest g.Xsiz;
        Ysiz = be_row (before 5) 4 z.Ysiz _ rest g.Ysiz;
        XOsiz = be_row (before 6) 4 z.XOsiz _ rest (omega arith);
        YOsiz = be_row (before 7) 4 z.YOsiz _ rest (omega arith);
        Csiz = be_row (before 12) 2 (Csiz z) _ rest (omega arith);
        Ssiz = sym (be_one _ 42) ∙ be_row (before 13) 1 (ssiz_of z.first) _ rest (ssiz_byte z.first.signed z.first.depth g.depth);
      }

  pub tile_fields_standard : TileRanges z → TileFields z (bytes_of_rows (siz_rows z) ++ rest)
  unfolding siz_rows component_rows widths
  tile_fields_standard t =
      let before : ℕ → List Row = λ k. take k (siz_rows z) in
      record {
        XTsiz = be_row (before 8) 4 z.XTsiz _ rest t.XTsiz.1;
        YTsiz = be_row (before 9) 4 z.YTsiz _ rest t.YTsiz.1;
        XTOsiz = be_row (before 10) 4 z.XTOsiz _ rest (omega arith);
        YTOsiz = be_row (before 11) 4 z.YTOsiz _ rest (omega arith);
      }
