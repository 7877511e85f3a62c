-- The rows that are left, put where the next row goes, make the table that all rows make of the one lent; each turn is one key.
use native.Mathlib.Omega.{arith}
use mathlib.Core.Path.{◌∙◌}
use Rattle.index.proofs.EntriesLaws.{Told, row_there, none_filled, one_room, one_filled, skip_filled, all_filled}
use Rattle.index.proofs.entries.fill.Goals as goal
use Rattle.index.proofs.entries.fill.Goals.{After-is_there, then-is_there, else-is_there}

-- the key here was looked up
told : (c : After-is_there) → Told c.args.tile c.args.table.now c.args.run.now c.loop-key.key-index c.is_there.result
told c = record { inside = c.loop-key-test.true; is = c.is_there.ensures }

pub loop-key-init : goal.loop-key-init
loop-key-init c = none_filled c.requires

pub overflow_mul-number : goal.overflow_mul-number
overflow_mul-number c = omega (arith, row_there (told (goal.at.overflow_mul-number c).After-is_there) c.if-is_there.true)

pub read_row-entry-requires : goal.read_row-entry-requires
read_row-entry-requires c = omega (arith, row_there (told (goal.at.read_row-entry-requires c).After-is_there) c.if-is_there.true)

pub write_row-requires : goal.write_row-requires
write_row-requires c = one_room (told (goal.at.write_row-requires c).After-is_there) c.if-is_there.true c.loop-key.invariant

pub overflow_add-at : goal.overflow_add-at
overflow_add-at c = omega (arith, one_room (told (goal.at.overflow_add-at c).After-is_there) c.if-is_there.true c.loop-key.invariant, c.loop-key.invariant.same)

pub loop-key-preserved : goal.loop-key-preserved
loop-key-preserved c =
    let t = told (goal.at.loop-key-preserved c).After-is_there in
    elim c.if-is_there.branch [
      | then-is_there w ↦
          one_filled t w.if-is_there.true w.number_of-number.ensures w.read_row-entry.ensures (w.out-is ∙ w.write_row.ensures) w.at-is c.loop-key.invariant
      | else-is_there w ↦ skip_filled t w.if-is_there.false w.out-is w.at-is c.loop-key.invariant
    ]

pub returns : goal.returns
returns c = all_filled c.loop-key-test.false c.loop-key.invariant
