-- std's list of the bytes is the definition's, copied where it stands.
use Rattle.numbers.proofs.BytesLaws.{put_be}
use Rattle.numbers.proofs.write_u32.Goals as goal

pub returns : goal.returns
returns c = rw (c.copy_from_slice.ensures.after, c.to_be_bytes.ensures) (put_be 4 c.args.value c.args.out.now c.args.at)
