-- The records up to here stand as rows; each turn is one record.
use Prim.Native.Nat.{ℕ}
use native.Mathlib.Omega.{arith}
use mathlib.Core.Path.{◌≡◌, refl, sym, ap, ◌∙◌}
use lib.ListN.{take}
use Rattle.numbers.specs.Bytes.{put}
use Rattle.numbers.proofs.BytesLaws.{put_none}
use Rattle.types.specs.Row.{rows_of}
use Rattle.probe.proofs.OwnLaws.{stored_row}
use Rattle.probe.proofs.own.store.Goals as goal

pub loop-i-init : goal.loop-i-init
unfolding rows_of
loop-i-init c = (omega arith, omega arith, refl, sym (put_none _ 0))

pub write_row-requires : goal.write_row-requires
write_row-requires c = omega arith

pub overflow_add-at : goal.overflow_add-at
overflow_add-at c = omega arith

pub loop-i-preserved : goal.loop-i-preserved
loop-i-preserved c = (
  omega arith,
  omega arith,
  omega arith,
  stored_row c.args.rows.now c.args.table _ c.loop-i.i (omega arith) (omega arith) c.loop-i.invariant.3 c.loop-i.invariant.1 c.write_row.ensures,
)

pub returns : goal.returns
returns c =
    let all : c.loop-i.i ≡ c.args.count = omega arith in
    c.loop-i.invariant.3 ∙ ap (λ (n : ℕ). put c.args.rows.now 0 (rows_of (take n c.args.table))) all
