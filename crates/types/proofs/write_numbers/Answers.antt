-- Three stores are one replacement.
use mathlib.Core.Path.{sym, ap, ◌∙◌}
use Rattle.numbers.specs.Bytes.{put}
use Rattle.types.specs.declared.PartNumbers.{PartNumbers}
use Rattle.types.proofs.RowLaws.{stores}
use Rattle.types.specs.Row.{number_bytes}
use borrow.Author.Rules.{rules}
use Rattle.types.proofs.write_numbers.Goals as goal

pub returns-in-Known : goal.returns-in-Known
unfolding number_bytes
returns-in-Known c =
    let a = c.args in
    stores a.table.now a.at _ _ _ (search rules) ∙ ap (λ (k : PartNumbers). put a.table.now a.at (number_bytes k)) (sym c.in-Known.is)

pub returns-in-NotKnown : goal.returns-in-NotKnown
unfolding number_bytes
returns-in-NotKnown c =
    let a = c.args in
    stores a.table.now a.at _ _ _ (search rules) ∙ ap (λ (k : PartNumbers). put a.table.now a.at (number_bytes k)) (sym c.in-NotKnown.is)
