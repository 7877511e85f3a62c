-- Where a tile lies by the original's rule (docs/RULES.md, "Tiles by the original's rule"): counted from the image origin, on numbers of 32 bits.
use Rattle.std.specs.Prelude.{ℕ, ◌+◌, ◌-◌, ◌*◌, ◌/◌, ◌%◌, ◌^◌, min, cond, List, leb, ltb, eqb, Option, Some, None}
use Rattle.numbers.specs.Ceiling.{ceil_div}
use Rattle.types.specs.Siz.{xsiz, ysiz, xosiz, yosiz, xtsiz, ytsiz}
use Rattle.tile.specs.Siz.{marker}
use Rattle.tile.specs.declared.siz.Span.{Span}
use Rattle.types.specs.declared.Area.{Area}

-- ---- one axis

-- a step that must not pass 2^32-1, and what goes on from its result
unfoldable pub fitting : ℕ → (ℕ → Option Span) → Option Span
fitting n rest = cond (ltb n (2 ^ 32)) (rest n) None

-- from one place to another, whose difference must not fall below 0
unfoldable pub reaching : ℕ → ℕ → Option Span
reaching from to = cond (leb from to) (Some (record { from = from; to = to })) None

-- x0 is the origin plus so many tile sizes; the tile ends one size further or with the image
unfoldable pub axis_of : ℕ → ℕ → ℕ → ℕ → Option Span
unfolding fitting reaching
axis_of end origin size cell =
    fitting (cell * size) (λ along. fitting (origin + along) (λ x0. fitting (x0 + size) (λ x1. reaching x0 (min x1 end))))

-- how many columns: ceil((Xsiz - XOsiz) / XTsiz), 0 where a step fails
unfoldable pub columns_of : ℕ → ℕ → ℕ → ℕ
columns_of end origin size = cond (leb origin end) (cond (eqb size 0) 0 (ceil_div (end - origin) size)) 0

-- ---- the tile

unfoldable pub both_axes : Option Span → Option Span → Option Area
both_axes (Some x) (Some y) = Some (record { x0 = x.from; y0 = y.from; x1 = x.to; y1 = y.to })
both_axes (Some x) None = None
both_axes None down = None

-- column and row are remainder and quotient of the index by the columns
unfoldable pub in_grid : List ℕ → ℕ → ℕ → Option Area
unfolding both_axes
in_grid h columns tile =
    cond (eqb columns 0) None
    (both_axes
    (axis_of (xsiz h marker) (xosiz h marker) (xtsiz h marker) (tile % columns))
    (axis_of (ysiz h marker) (yosiz h marker) (ytsiz h marker) (tile / columns)))

unfoldable pub tile_area : List ℕ → ℕ → Option Area
tile_area h tile = in_grid h (columns_of (xsiz h marker) (xosiz h marker) (xtsiz h marker)) tile
