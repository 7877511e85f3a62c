-- A size that meets the premises of `proofs/IsoComponents.antt`, one with any number of components, and others that show which premises are needed.
use Prim.Native.Nat.{ℕ, zero, suc, ◌+◌, ◌<◌}
use native.Mathlib.Omega.{arith}
use mathlib.Core.Path.{◌≡◌, refl, ap}
use mathlib.Core.Bool.{Bool, true, false}
use mathlib.Core.List.{List, [], ◌∷◌}
use lib.ListN.{replicate, length-replicate}
use Rattle.std.specs.Prelude.{Some, Ok, Err}
use Rattle.numbers.specs.Bytes.{be, bytes_of}
use Rattle.numbers.specs.Ceiling.{ceil_div}
use Rattle.numbers.specs.Rows.{bytes_of_rows}
use Rattle.types.specs.Refusals.{refusal}
use Rattle.types.specs.IsoSiz.{Component, Size, Csiz, component_rows, siz_rows, TileRanges}
use Rattle.header.specs.Step.{segment_end}
use Rattle.header.specs.Parse.{stands}
use Rattle.tile.specs.Siz.{marker}
use Rattle.tile.specs.Rules.{image_area}
use Rattle.tile.specs.declared.rules.Rule.TheVariants.{AnnexB}
use Rattle.tile.specs.Iso.{num_xtiles, num_ytiles, column_of, row_of, start_of, end_of, area_of, header_of}
use Rattle.reader.specs.Components.{siz_whole, count_held, apart, all_apart, ordered, components_read, divided, component_at, is_there, component_in, chosen, component_of, component_in_tile}
use Rattle.reader.specs.Iso.{EachRanges, AllRanges, image_of, info_of}
use Rattle.reader.proofs.IsoComponents.{component_standard, component_annex_standard, most_components, one_too_many}
use Rattle.types.specs.declared.Reason.TheVariants.{ComponentsNotHeld, SubsamplingOf0}

abbrev samples : ℕ → Bool → ℕ → ℕ → Component
samples depth signed xr yr = record { depth = depth; signed = signed; XRsiz = xr; YRsiz = yr }

-- 10 by 6 in tiles of 4 by 4
abbrev image : Component → List Component → Size
image first others =
    record {
      Rsiz = 0;
      Xsiz = 10;
      Ysiz = 6;
      XOsiz = 0;
      YOsiz = 0;
      XTsiz = 4;
      YTsiz = 4;
      XTOsiz = 0;
      YTOsiz = 0;
      first = first;
      others = others;
    }

-- ---- the premises are met

-- three components of 8 bits, the last two at every second place, the last with a sign
abbrev three : Size
three = image (samples 8 false 1 1) (samples 8 false 2 2 ∷ samples 8 true 2 2 ∷ [])

three_ranges : AllRanges three
unfolding EachRanges
three_ranges = omega arith

three_tiles : TileRanges three
three_tiles = omega arith

-- the last component is 5 by 3
pub three_last : (rest : List ℕ)
    → component_of (header_of three rest) 2 ≡ Ok (Some (record { bits = 8; is_signed = true; xrsiz = 2; yrsiz = 2; area = record { x0 = 0; y0 = 0; x1 = 5; y1 = 3 } }))
unfolding info_of image_of ceil_div
three_last rest = component_standard three rest three_ranges (samples 8 false 1 1 ∷ samples 8 false 2 2 ∷ []) _ [] refl

-- and 1 by 1 in the last tile
pub three_last_tile : (rest : List ℕ)
    → component_in_tile AnnexB (header_of three rest) 5 2 ≡ Ok (Some (record { bits = 8; is_signed = true; xrsiz = 2; yrsiz = 2; area = record { x0 = 4; y0 = 2; x1 = 5; y1 = 3 } }))
unfolding info_of ceil_div num_xtiles num_ytiles column_of row_of start_of end_of area_of
three_last_tile rest =
    component_annex_standard three rest three_ranges (samples 8 false 1 1 ∷ samples 8 false 2 2 ∷ []) _ [] refl 5 three_tiles (omega arith)

-- one component and n others
abbrev crowd : ℕ → Size
crowd n = image (samples 8 false 1 1) (replicate n (samples 8 false 1 1))

pub crowd_count : (n : ℕ) → Csiz (crowd n) ≡ 1 + n
crowd_count n = ap (λ (k : ℕ). 1 + k) (length-replicate n (samples 8 false 1 1))

each_same : (n : ℕ) → EachRanges (replicate n (samples 8 false 1 1))
unfolding EachRanges
each_same zero = tt
each_same (suc n) = (omega arith, each_same n)

-- up to 16,384 components meet all ranges
pub crowd_ranges : (n : ℕ) → n < 16384 → AllRanges (crowd n)
unfolding EachRanges
crowd_ranges n h = record { image = omega (arith, crowd_count n); each = (omega arith, each_same n) }

pub crowd_most : (rest : List ℕ) → components_read (header_of (crowd 16383) rest) ≡ Ok (record { count = 16384; area = image_of (crowd 16383) })
crowd_most rest = most_components (crowd 16383) rest (crowd_ranges 16383 (omega arith)) (crowd_count 16383)

-- ---- the premises are needed

-- a component more is refused
pub crowd_too_many : (rest : List ℕ) → components_read (header_of (crowd 16384) rest) ≡ Err (refusal ComponentsNotHeld marker)
crowd_too_many rest = one_too_many (crowd 16384) rest (crowd_count 16384)

unfoldable by_document : Unit {0}
unfolding components_read stands siz_whole segment_end count_held all_apart apart image_area ordered component_of chosen component_in is_there component_at divided ceil_div be bytes_of bytes_of_rows siz_rows component_rows
by_document = tt

-- a step of 0 is refused
pub step_none : components_read (header_of (image (samples 8 false 0 1) []) []) ≡ Err (refusal SubsamplingOf0 marker)
unfolding by_document
step_none = refl

-- a depth of 39 is given all the same
pub depth_beyond : component_of (header_of (image (samples 39 false 1 1) []) []) 0
    ≡ Ok (Some (record { bits = 39; is_signed = false; xrsiz = 1; yrsiz = 1; area = record { x0 = 0; y0 = 0; x1 = 10; y1 = 6 } }))
unfolding by_document
depth_beyond = refl

-- one of 129 reaches the sign
pub depth_sign : component_of (header_of (image (samples 129 false 1 1) []) []) 0
    ≡ Ok (Some (record { bits = 1; is_signed = true; xrsiz = 1; yrsiz = 1; area = record { x0 = 0; y0 = 0; x1 = 10; y1 = 6 } }))
unfolding by_document
depth_sign = refl
