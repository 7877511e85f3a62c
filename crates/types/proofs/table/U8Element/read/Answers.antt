-- The n-th row's record, and those after it.
use Prim.Native.Nat.{◌+◌}
use native.Mathlib.Omega.{arith}
use mathlib.Core.Path.{sym, ap, ◌∙◌}
use mathlib.Core.List.{◌∷◌}
use lib.ListN.{drop}
use Rattle.types.specs.declared.TilePartEntry.{TilePartEntry}
use Rattle.types.specs.Row.{records_in}
use Rattle.types.proofs.RowReading.{record_here}
use Rattle.types.proofs.table.U8Element.read.Goals as goal

pub returns : goal.returns
returns c =
    record_here c.args.table.now c.args.n (omega arith)
    ∙ ap (λ (e : TilePartEntry). e ∷ drop (c.args.n + 1) (records_in c.args.table.now)) (sym c.read_row.ensures)
