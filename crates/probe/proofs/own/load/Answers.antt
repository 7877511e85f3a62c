-- The rows up to here stand as records; each turn is one row.
use Prim.Native.Nat.{ℕ}
use native.Mathlib.Omega.{arith}
use mathlib.Core.Path.{sym, ap, ◌∙◌}
use mathlib.Core.List.{List}
use lib.ListN.{set}
use Rattle.numbers.specs.Bytes.{put}
use Rattle.numbers.proofs.BytesLaws.{put_none}
use Rattle.types.specs.Row.{entry_at, records_at}
use Rattle.types.specs.declared.TilePartEntry.{TilePartEntry}
use Rattle.records.specs.Tables.{blank}
use Rattle.records.proofs.Answers.{length_blank}
use Rattle.probe.proofs.OwnLaws.{loaded_row}
use Rattle.probe.proofs.own.load.Goals as goal

pub loop-i-init : goal.loop-i-init
unfolding records_at
loop-i-init c = (omega arith, omega arith, c.new_table-table.ensures ∙ sym (put_none blank 0))

pub read_row-entry-requires : goal.read_row-entry-requires
read_row-entry-requires c = omega arith

pub loop-i-preserved : goal.loop-i-preserved
loop-i-preserved c =
    let read = c.read_row-entry.ensures ∙ ap (entry_at c.args.rows.now) c.loop-i.invariant.1 in (
      omega arith,
      omega arith,
      loaded_row blank c.args.rows.now c.loop-i.i (omega (arith, length_blank)) read (ap (λ (t : List TilePartEntry). set t c.loop-i.i c.read_row-entry.result) c.loop-i.invariant.2),
    )

pub returns : goal.returns
returns c =
    c.loop-i.invariant.2 ∙ ap (λ (n : ℕ). put blank 0 (records_at n c.args.rows.now 0)) (omega arith)
