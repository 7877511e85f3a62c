-- The rows that are left, put where the next row goes, make the table that all rows make of the one lent; a turn puts one.
use Prim.Native.Nat.{ℕ, ◌*◌}
use native.Mathlib.Omega.{arith}
use mathlib.Core.Path.{sym, ap, ◌∙◌}
use Rattle.types.proofs.RowStanding.{length_all}
use Rattle.parts.specs.Scan.{entries_from}
use Rattle.parts.proofs.ScanLaws.{leads_inside}
use Rattle.parts.proofs.FillRest.{none_filled, stands, one_room, turn, all_filled}
use Rattle.parts.proofs.fill.fill_rest.Goals as goal

pub loop-init : goal.loop-init
loop-init g c =
    let h = c.requires in
    let L = g.E.Element.layout in
    let long = length_all L (entries_from c.args.codestream.now c.args.start) ∙ ap (λ (n : ℕ). g.E.Element.WIDTH * n) (sym h.count_value) in
    none_filled L h.count_value (omega (arith, long, h.count_in_bounds))

pub part_at-entry-requires : goal.part_at-entry-requires
part_at-entry-requires g c = (stands g.E.Element.layout c.loop-test.true c.loop.invariant).room

pub write-requires : goal.write-requires
write-requires g c = one_room g.E.Element.layout c.loop-test.true c.loop.invariant

pub overflow_add-row : goal.overflow_add-row
overflow_add-row g c =
    omega (arith, one_room g.E.Element.layout c.loop-test.true c.loop.invariant, c.loop.invariant.same)

pub next_at-at-requires : goal.next_at-at-requires
next_at-at-requires g c =
    let h = stands g.E.Element.layout c.loop-test.true c.loop.invariant in
    record { at_in_bounds = h.room; at_in_bounds_2 = leads_inside _ _ h }

pub loop-preserved : goal.loop-preserved
loop-preserved g c =
    rw c.WIDTH-row.ensures (turn g.E.Element.layout c.loop-test.true c.part_at-entry.ensures c.write.ensures c.next_at-at.ensures c.loop.invariant)

pub returns : goal.returns
returns g c = all_filled g.E.Element.layout c.loop-test.false c.loop.invariant
