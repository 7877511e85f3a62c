-- The record that is written is the SOT's with Psot bytes, and Psot leads to the next.
use Prim.Native.Nat.{ℕ, ◌+◌}
use mathlib.Core.Path.{ap, ◌∙◌}
use Rattle.numbers.specs.Bytes.{put}
use Rattle.types.specs.declared.TilePartEntry.{TilePartEntry}
use Rattle.parts.specs.Scan.{entry_of}
use Rattle.parts.proofs.fill.write_part.Goals as goal

pub returns-clause-value : goal.returns-clause-value
returns-clause-value g c = ap (λ (n : ℕ). c.args.at + n) c.read_u32-psot.ensures

pub returns-clause-table_after : goal.returns-clause-table_after
returns-clause-table_after g c =
    c.write.ensures
    ∙ ap (λ (e : TilePartEntry). put c.args.table.now c.args.row (g.E.Element.layout.one e))
    (c.entry_at-entry.ensures ∙ ap (entry_of c.args.codestream.now c.args.at) c.read_u32-psot.ensures)
