-- What is left of each run, put where its next row goes, makes the table that the four runs make of the one lent; a turn writes a row of each.
use Prim.Native.Nat.{ℕ, ◌*◌, ◌≤◌}
use native.Mathlib.Nat.{mul-le-mul_left}
use native.Mathlib.Omega.{arith}
use mathlib.Core.Path.{◌≡◌, refl, ap}
use Rattle.parts.proofs.FillRuns.{none_spread, first_stands, second_stands, third_stands, fourth_stands, row_fits, turn, turns_are, all_spread}
use Rattle.parts.proofs.fill.fill_runs.Goals as goal

pub overflow_mul-wide : goal.overflow_mul-wide
overflow_mul-wide g c =
    let q = c.requires.quartered in
    let few : c.args.runs.turns ≤ c.args.runs.parts = omega (arith, q.parts, q.followed) in
    omega (arith, ap (λ (n : ℕ). n * c.args.runs.turns) c.WIDTH.ensures, mul-le-mul_left g.E.Element.WIDTH few, c.requires.parts_in_bounds)

pub loop-row-init : goal.loop-row-init
loop-row-init g c =
    let q = c.requires.quartered in
    none_spread g.E.Element.layout c.args.runs.turns (ap (λ (n : ℕ). n * c.args.runs.turns) c.WIDTH.ensures) (omega (arith, q.followed, q.parts)) q.second q.third q.fourth
    (rw q.parts at c.requires.parts_in_bounds)

pub write_part-first-requires : goal.write_part-first-requires
write_part-first-requires g c =
    let i = c.loop-row.invariant in
    let f = first_stands g.E.Element.layout c.loop-row-test.true i in
    record {
      at_in_bounds = f.room;
      at_in_bounds_2 = f.inside;
      width_in_bounds = omega (arith, row_fits g.E.Element.layout c.loop-row-test.true i, i.same, i.room);
    }

pub overflow_add-wide : goal.overflow_add-wide
overflow_add-wide g c = let i = c.loop-row.invariant in omega (arith, row_fits g.E.Element.layout c.loop-row-test.true i, i.room)

pub write_part-second-requires : goal.write_part-second-requires
write_part-second-requires g c =
    let i = c.loop-row.invariant in
    let f = second_stands g.E.Element.layout c.loop-row-test.true i in
    record {
      at_in_bounds = f.room;
      at_in_bounds_2 = f.inside;
      width_in_bounds = omega (arith, row_fits g.E.Element.layout c.loop-row-test.true i, i.same, i.room);
    }

pub overflow_mul-wide-in-loop-row : goal.overflow_mul-wide-in-loop-row
overflow_mul-wide-in-loop-row g c = let i = c.loop-row.invariant in omega (arith, row_fits g.E.Element.layout c.loop-row-test.true i, i.room)

pub overflow_add-wide-in-loop-row : goal.overflow_add-wide-in-loop-row
overflow_add-wide-in-loop-row g c = let i = c.loop-row.invariant in omega (arith, row_fits g.E.Element.layout c.loop-row-test.true i, i.room)

pub write_part-third-requires : goal.write_part-third-requires
write_part-third-requires g c =
    let i = c.loop-row.invariant in
    let f = third_stands g.E.Element.layout c.loop-row-test.true i in
    record {
      at_in_bounds = f.room;
      at_in_bounds_2 = f.inside;
      width_in_bounds = omega (arith, row_fits g.E.Element.layout c.loop-row-test.true i, i.same, i.room);
    }

pub overflow_mul-wide-in-loop-row-2 : goal.overflow_mul-wide-in-loop-row-2
overflow_mul-wide-in-loop-row-2 g c = let i = c.loop-row.invariant in omega (arith, row_fits g.E.Element.layout c.loop-row-test.true i, i.room)

pub overflow_add-wide-in-loop-row-2 : goal.overflow_add-wide-in-loop-row-2
overflow_add-wide-in-loop-row-2 g c = let i = c.loop-row.invariant in omega (arith, row_fits g.E.Element.layout c.loop-row-test.true i, i.room)

pub write_part-fourth-requires : goal.write_part-fourth-requires
write_part-fourth-requires g c =
    let i = c.loop-row.invariant in
    let f = fourth_stands g.E.Element.layout c.loop-row-test.true i in
    record {
      at_in_bounds = f.room;
      at_in_bounds_2 = f.inside;
      width_in_bounds = omega (arith, row_fits g.E.Element.layout c.loop-row-test.true i, i.same, i.room);
    }

pub overflow_add-row : goal.overflow_add-row
overflow_add-row g c = let i = c.loop-row.invariant in omega (arith, row_fits g.E.Element.layout c.loop-row-test.true i, i.room)

pub loop-row-smaller : goal.loop-row-smaller
loop-row-smaller g c = omega (arith, c.loop-row-test.true, c.WIDTH-row.ensures, g.E.Element.layout.some)

pub loop-row-preserved : goal.loop-row-preserved
loop-row-preserved g c =
    rw c.WIDTH-row.ensures
    (turn g.E.Element.layout c.loop-row-test.true refl c.write_part-first.ensures.table_after c.write_part-first.ensures.value
    refl c.write_part-second.ensures.table_after c.write_part-second.ensures.value
    refl c.write_part-third.ensures.table_after c.write_part-third.ensures.value
    refl c.write_part-fourth.ensures.table_after c.write_part-fourth.ensures.value c.loop-row.invariant)

pub returns : goal.returns
returns g c =
    let i = c.loop-row.invariant in
    let n : i.n ≡ c.args.runs.turns = turns_are g.E.Element.layout (ap (λ (m : ℕ). m * c.args.runs.turns) c.WIDTH.ensures) i in
    let done = rw n at (all_spread g.E.Element.layout c.loop-row-test.false i) in
    record { result_value = done.0; table_after = done.1 }
