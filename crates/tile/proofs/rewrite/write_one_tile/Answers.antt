-- Four pairs that adjoin are the eight fields.
use borrow.Author.Rules.{rules}
use Rattle.tile.proofs.RewriteHeader.{put_one}
use Rattle.tile.proofs.rewrite.write_one_tile.Goals as goal

pub returns : goal.returns
returns c = cc (put_one c.args.out.now c.args.tile (search rules))
