-- A store is a replacement of one.
use native.Mathlib.Omega.{arith}
use Rattle.numbers.proofs.BytesLaws.{put_one}
use Rattle.types.proofs.table.TilePartEntryElement.write.Goals as goal

pub returns : goal.returns
returns c = put_one c.args.table.now c.args.at c.args.entry (omega arith)
