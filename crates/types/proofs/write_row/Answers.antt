-- Four writes that adjoin are the row.
use borrow.Author.Rules.{rules}
use Rattle.types.proofs.RowLaws.{put_row}
use Rattle.types.proofs.write_row.Goals as goal

pub returns : goal.returns
returns c =
    let a = c.args in
    put_row a.entry a.table.now a.at (search rules) c.write_u16.ensures c.write_u64.ensures c.write_u64-2.ensures c.write_numbers.ensures
