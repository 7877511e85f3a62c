-- After k enlargements the region is the k-th, and the growth from there on ends as the whole growth does; each turn adds one to k, which stays below the length.
use Prim.Native.Nat.{◌<◌}
use native.Mathlib.Omega.{arith}
use mathlib.Core.Path.{refl, sym, ap, ◌∙◌}
use lib.Seq.{length-take-le}
use lib.ListN.{length}
use Rattle.std.specs.Prelude.{is_some}
use Rattle.reader.proofs.GrowthLaws.{region_early, region_48, whole_suffices, extent_suffices, turn_last, turn_part, turn_more}
use Rattle.reader.specs.Growth.{region_at, grown}
use Rattle.reader.proofs.growth.grow_header_region.Goals as goal
use Rattle.reader.proofs.growth.grow_header_region.Goals.{In-loop-region}

-- in the loop the region is not the whole
part : (c : In-loop-region) → c.loop-region.region < length c.args.codestream.now
part c = turn_part _ _ _ c.loop-region.invariant.0 c.loop-region.invariant.1 c.loop-region-test.true

-- so few enlargements led there
early : (c : In-loop-region) → (c.loop-region.enlargements < 48) × (c.loop-region.enlargements < length c.args.codestream.now)
early c =
    let p = part c in
    let h : region_at (length c.args.codestream.now) c.loop-region.enlargements < length c.args.codestream.now = omega (arith, c.loop-region.invariant.0) in
    (region_48 _ _ (omega arith) h, region_early _ _ h)

pub loop-region-init : goal.loop-region-init
unfolding region_at grown
loop-region-init c = (c.min-region.ensures, refl)

pub slice_bounds-main_header_extent-end : goal.slice_bounds-main_header_extent-end
slice_bounds-main_header_extent-end c =
    let p = part (goal.at.slice_bounds-main_header_extent-end c).In-loop-region in
    sym (length-take-le _ _ (omega arith))

pub returns-else-is_none : goal.returns-else-is_none
returns-else-is_none c =
    let told = ap is_some (sym c.main_header_extent.ensures) ∙ c.if-is_none.ensures in
    turn_last _ _ _ c.loop-region.invariant.0 c.loop-region.invariant.1 (extent_suffices _ _ c.loop-region-test.true _ told)

pub overflow_add-enlargements : goal.overflow_add-enlargements
overflow_add-enlargements c = omega (arith, (early (goal.at.overflow_add-enlargements c).In-loop-region).0)

pub loop-region-smaller : goal.loop-region-smaller
loop-region-smaller c = omega (arith, (early (goal.at.loop-region-smaller c).In-loop-region).1)

pub loop-region-preserved : goal.loop-region-preserved
loop-region-preserved c =
    let told = ap is_some (sym c.main_header_extent.ensures) ∙ c.if-is_none.ensures in
    let more = turn_more _ _ _ c.loop-region.invariant.0 c.loop-region.invariant.1 (extent_suffices _ _ c.loop-region-test.true _ told) in
    (c.next_region-region.ensures ∙ more.0, more.1)

pub returns-after-loop-region : goal.returns-after-loop-region
returns-after-loop-region c = turn_last _ _ _ c.loop-region.invariant.0 c.loop-region.invariant.1 (whole_suffices _ _ c.loop-region-test.false)
