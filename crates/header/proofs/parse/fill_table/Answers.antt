-- What was written and the records that lie ahead make up the table at every turn.
use Prim.Native.Nat.{ℕ, ◌+◌, ◌*◌}
use native.Mathlib.Omega.{arith}
use mathlib.Core.Path.{◌≡◌, sym, ap, ◌∙◌}
use Rattle.std.specs.Prelude.{Some, Ok}
use Rattle.header.specs.Walk.{walk_step_at}
use Rattle.header.proofs.ParseFilling.{count_ahead, wide_ahead, numbers_here, filling_start, filling_plain, filling_tlm, filling_done}
use Rattle.header.proofs.WalkLaws.{passed_is, next_none, next_some}
use Rattle.header.proofs.parse.fill_table.Goals as goal
use Rattle.header.proofs.parse.fill_table.Goals.{In-Some}

-- what the step passed
found : (g : _) (c : In-Some g) → walk_step_at c.args.codestream.now c.loop-passed.at ≡ Ok (Some c.in-Some.passed)
found g c = next_some _ _ _ (sym c.in-Some.ensures)

pub loop-passed-init : goal.loop-passed-init
loop-passed-init g c =
    let r = c.requires in
    filling_start g.E.Element.layout _ _ _ _ r.in_bounds r.codestream_value r.codestream_in_bounds r.codestream_bound

-- the walk ends where nothing is passed
pub returns : goal.returns
returns g c =
    let l = c.loop-passed in
    filling_done g.E.Element.layout _ _ _ _ _ l.row l.offset.0 l.first l.at l.invariant (next_none _ _ (sym c.next_passed.ensures ∙ c.in_default.is))

-- a TLM segment: its entries are among those that lie ahead, and its numbers are those that 16 bits hold
pub fill_segment-offset-requires : goal.fill_segment-offset-requires
fill_segment-offset-requires g c =
    let l = c.loop-passed in
    let f = found g (goal.at.fill_segment-offset-requires g c).In-Some in
    let tlm = (passed_is _ _ _ f).tlm _ c.in-Some-tlm.is in
    let ahead = count_ahead g.E.Element.layout _ _ _ _ _ l.row l.offset.0 l.first l.at l.invariant _ f c.in-Some-tlm.is in
    let wide = wide_ahead g.E.Element.layout _ _ _ _ _ l.row l.offset.0 l.first l.at l.invariant _ f c.in-Some-tlm.is in
    let few = numbers_here g.E.Element.layout _ _ _ _ _ l.row l.offset.0 l.first l.at l.invariant _ f (λ i. omega (arith, c.type_inv.codestream i)) c.in-Some-tlm.is in
    record {
      accepted = tlm.accepted;
      count_value = tlm.count;
      at_bound = few;
      count_in_bounds = omega (arith, l.invariant.room, wide);
      count_bound = omega (arith, l.invariant.bound, ahead);
    }

pub overflow_mul-row : goal.overflow_mul-row
overflow_mul-row g c =
    let l = c.loop-passed in
    let wide = wide_ahead g.E.Element.layout _ _ _ _ _ l.row l.offset.0 l.first l.at l.invariant _ (found g (goal.at.overflow_mul-row g c).In-Some) c.in-Some-tlm.is in
    omega (arith, l.invariant.room, l.invariant.same, wide, ap (λ (m : ℕ). m * c.in-Some-tlm.count) c.WIDTH.ensures)

pub overflow_add-row : goal.overflow_add-row
overflow_add-row g c =
    let l = c.loop-passed in
    let wide = wide_ahead g.E.Element.layout _ _ _ _ _ l.row l.offset.0 l.first l.at l.invariant _ (found g (goal.at.overflow_add-row g c).In-Some) c.in-Some-tlm.is in
    omega (arith, l.invariant.room, l.invariant.same, wide, ap (λ (m : ℕ). m * c.in-Some-tlm.count) c.WIDTH.ensures)

pub next_number-first-requires : goal.next_number-first-requires
next_number-first-requires g c =
    let l = c.loop-passed in
    let f = found g (goal.at.next_number-first-requires g c).In-Some in
    let tlm = (passed_is _ _ _ f).tlm _ c.in-Some-tlm.is in
    let few = numbers_here g.E.Element.layout _ _ _ _ _ l.row l.offset.0 l.first l.at l.invariant _ f (λ i. omega (arith, c.type_inv.codestream i)) c.in-Some-tlm.is in
    record { accepted = tlm.accepted; count_value = tlm.count; first_bound = omega (arith, few) }

pub loop-passed-smaller-in-Some-tlm : goal.loop-passed-smaller-in-Some-tlm
loop-passed-smaller-in-Some-tlm g c =
    let told = passed_is _ _ _ (found g (goal.at.loop-passed-smaller-in-Some-tlm g c).In-Some) in
    omega (arith, told.past, told.inside)

pub loop-passed-preserved-in-Some-tlm : goal.loop-passed-preserved-in-Some-tlm
loop-passed-preserved-in-Some-tlm g c =
    let l = c.loop-passed in
    let filled = c.fill_segment-offset.ensures in
    rw filled.result_value
    (filling_tlm g.E.Element.layout _ _ _ _ _ l.row l.offset.0 l.first l.at l.invariant _ (found g (goal.at.loop-passed-preserved-in-Some-tlm g c).In-Some)
    (λ i. omega (arith, c.type_inv.codestream i)) c.in-Some-tlm.is _ filled.table_after (ap (λ (m : ℕ). l.row + m * c.in-Some-tlm.count) c.WIDTH.ensures) c.next_number-first.ensures)

-- anything else
pub loop-passed-smaller : goal.loop-passed-smaller
loop-passed-smaller g c =
    let told = passed_is _ _ _ (found g (goal.at.loop-passed-smaller g c).In-Some) in
    omega (arith, told.past, told.inside)

pub loop-passed-preserved : goal.loop-passed-preserved
loop-passed-preserved g c =
    let l = c.loop-passed in
    filling_plain g.E.Element.layout _ _ _ _ _ l.row l.offset.0 l.first l.at l.invariant _ (found g (goal.at.loop-passed-preserved g c).In-Some) c.in_default-tlm.is
