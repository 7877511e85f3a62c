-- The rows of the entries that are left, put where the next row goes, make the table that all rows make of the one lent; a turn puts one.
use Prim.Native.Nat.{ℕ, ◌+◌, ◌^◌, ◌<◌}
use native.Mathlib.Omega.{arith}
use lib.ListN.{get_or}
use Rattle.header.proofs.TlmFill.{none_filled, all_filled, one_room, turn, entry_bound}
use Rattle.header.proofs.tlm.fill_segment.Goals as goal

pub loop-i-init : goal.loop-i-init
loop-i-init g c = none_filled g.E.Element.layout c.requires.count_in_bounds c.requires.count_bound

pub write-requires : goal.write-requires
write-requires g c = one_room g.E.Element.layout c.loop-i-test.true c.loop-i.invariant

-- the entry's end, in 64 bits
pub end_of-offset-requires : goal.end_of-offset-requires
end_of-offset-requires g c =
    let bytes : (j : ℕ) → get_or c.args.codestream.now j 0 < 256 = λ j. omega (arith, c.type_inv.codestream j) in
    let bound = entry_bound c.args.codestream.now c.args.at bytes c.args.first c.loop-i.i in
    let ends : c.tlm_entry-entry.result.offset.0 + c.tlm_entry-entry.result.length < 2 ^ 64 = rw c.tlm_entry-entry.ensures (omega arith) in
    omega arith

pub overflow_add-to : goal.overflow_add-to
overflow_add-to g c = omega (arith, one_room g.E.Element.layout c.loop-i-test.true c.loop-i.invariant, c.loop-i.invariant.same)

pub loop-i-preserved : goal.loop-i-preserved
loop-i-preserved g c =
    let bytes : (j : ℕ) → get_or c.args.codestream.now j 0 < 256 = λ j. omega (arith, c.type_inv.codestream j) in
    rw c.end_of-offset.ensures
    (turn g.E.Element.layout c.loop-i-test.true c.loop-i.invariant bytes c.tlm_entry-entry.ensures c.write.ensures (omega arith))

pub returns : goal.returns
returns g c =
    let all = all_filled g.E.Element.layout c.loop-i-test.false c.loop-i.invariant in
    record { result_value = all.0; table_after = all.1 }
