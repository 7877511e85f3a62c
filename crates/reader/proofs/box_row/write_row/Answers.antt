-- Five writes that adjoin are the row.
use Rattle.reader.proofs.BoxRowLaws.{put_row}
use Rattle.reader.proofs.box_row.write_row.Goals as goal

pub returns : goal.returns
returns c = cc (put_row c.args.entry c.args.table.now c.args.at c.requires)
