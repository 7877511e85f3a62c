-- The components' sizes (docs/RULES.md, "Components"). SIZ stands directly behind SOC, and the rest of the header is not walked.
use Rattle.std.specs.Prelude.{ℕ, zero, suc, ◌+◌, ◌*◌, ◌%◌, Bool, true, cond, ◌&&◌, List, length, get_or, leb, ltb, eqb, Option, Some, None, Result, Ok, Err}
use Rattle.numbers.specs.Ceiling.{ceil_div}
use Rattle.types.specs.Markers.{SOC, SIZ}
use Rattle.types.specs.Siz.{lsiz, csiz, component}
use Rattle.types.specs.Refusals.{refusal}
use Rattle.types.specs.declared.Area.{Area}
use Rattle.header.specs.Step.{segment_end}
use Rattle.header.specs.Parse.{stands}
use Rattle.tile.specs.Siz.{marker}
use Rattle.tile.specs.Rules.{image_area, placed_by}
use Rattle.tile.specs.declared.rules.Rule.{Rule}
use Rattle.reader.specs.declared.components.ComponentInfo.{ComponentInfo}
use Rattle.reader.specs.declared.components.Components.{Components}
use Rattle.types.specs.declared.Refusal.{Refusal}
use Rattle.types.specs.declared.Reason.TheVariants.{NoSoc, NoSiz, SegmentPastEnd, ImageEndsBeforeItStarts, ComponentsNotHeld, SubsamplingOf0}

-- ---- the tests

-- SIZ's length field and its segment lie inside: otherwise 3
unfoldable pub siz_whole : List ℕ → Bool
unfolding segment_end
siz_whole s = leb (marker + 4) (length s) && leb (segment_end s marker) (length s)

-- Lsiz is 41 or more and 38 + 3 * Csiz, and Csiz is 1 to 16,384: otherwise 24
unfoldable pub count_held : List ℕ → Bool
count_held s =
    leb 41 (lsiz s marker)
    && (eqb (lsiz s marker) (38 + 3 * csiz s marker) && (leb 1 (csiz s marker) && leb (csiz s marker) 16384))

-- XRsiz and YRsiz of the component whose three bytes stand at a place are not 0
unfoldable pub apart : List ℕ → ℕ → Bool
apart s at = leb 1 (get_or s (at + 1) 0) && leb 1 (get_or s (at + 2) 0)

-- nor those of the first so many components: otherwise 25
unfoldable pub all_apart : List ℕ → ℕ → Bool
unfolding apart
all_apart s zero = true
all_apart s (suc n) = all_apart s n && apart s (component marker n)

-- an area ends no sooner than it starts: otherwise, of the image, 22
unfoldable pub ordered : Area → Bool
ordered a = leb a.x0 a.x1 && leb a.y0 a.y1

-- ---- the check

-- how many components there are, and where the image lies
unfoldable pub components_read : List ℕ → Result Components Refusal
unfolding siz_whole count_held all_apart ordered
components_read s =
    cond (stands s 0 SOC)
    (cond (stands s marker SIZ)
    (cond (siz_whole s)
    (cond (count_held s)
    (cond (all_apart s (csiz s marker))
    (cond (ordered (image_area s)) (Ok (record { count = csiz s marker; area = image_area s }))
    (Err (refusal ImageEndsBeforeItStarts marker)))
    (Err (refusal SubsamplingOf0 marker)))
    (Err (refusal ComponentsNotHeld marker)))
    (Err (refusal SegmentPastEnd marker)))
    (Err (refusal NoSiz marker)))
    (Err (refusal NoSoc 0))

-- the same, and where a tile lies: the rule's refusal comes last
unfoldable pub at_tile : Result Components Refusal → Result Area Refusal → Result Components Refusal
at_tile (Ok c) (Ok a) = Ok (record { count = c.count; area = a })
at_tile (Ok c) (Err r) = Err r
at_tile (Err r) p = Err r

unfoldable pub components_in_tile : Rule → List ℕ → ℕ → Result Components Refusal
unfolding at_tile
components_in_tile rule s tile = at_tile (components_read s) (placed_by rule s tile)

-- ---- one component

-- an area in a component's samples: both ends divided and rounded up (B-12 to B-15)
unfoldable pub divided : Area → ℕ → ℕ → Area
divided a xr yr = record { x0 = ceil_div a.x0 xr; y0 = ceil_div a.y0 yr; x1 = ceil_div a.x1 xr; y1 = ceil_div a.y1 yr }

-- the component whose three bytes stand at a place: Ssiz as depth and sign, XRsiz, YRsiz, and its part of an area
unfoldable pub component_at : List ℕ → Area → ℕ → ComponentInfo
unfolding divided
component_at s a at =
    record {
      bits = get_or s at 0 % 128 + 1;
      is_signed = leb 128 (get_or s at 0);
      xrsiz = get_or s (at + 1) 0;
      yrsiz = get_or s (at + 2) 0;
      area = divided a (get_or s (at + 1) 0) (get_or s (at + 2) 0);
    }

-- a component by its number and by itself: it is counted, its bytes lie inside, and it can be divided by. After the check only the count can fail.
unfoldable pub is_there : List ℕ → ℕ → Bool
is_there s k = ltb k (csiz s marker) && (leb (component marker k + 3) (length s) && apart s (component marker k))

unfoldable pub component_in : List ℕ → Area → ℕ → Result (Option ComponentInfo) Refusal
unfolding is_there component_at
component_in s a k = cond (is_there s k) (Ok (Some (component_at s a (component marker k)))) (Ok None)

-- after a check: its refusal, or the component in the area that it gave
unfoldable pub chosen : Result Components Refusal → List ℕ → ℕ → Result (Option ComponentInfo) Refusal
unfolding component_in
chosen (Ok c) s k = component_in s c.area k
chosen (Err r) s k = Err r

unfoldable pub component_of : List ℕ → ℕ → Result (Option ComponentInfo) Refusal
unfolding chosen
component_of s k = chosen (components_read s) s k

unfoldable pub component_in_tile : Rule → List ℕ → ℕ → ℕ → Result (Option ComponentInfo) Refusal
unfolding chosen
component_in_tile rule s tile k = chosen (components_in_tile rule s tile) s k
