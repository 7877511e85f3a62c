-- Two writes that adjoin are one.
use Prim.Native.Nat.{◌+◌}
use native.Mathlib.Omega.{arith}
use Rattle.tile.specs.Siz.{marker, pair}
use Rattle.numbers.proofs.BytesLaws.{length_bytes, put_put}
use Rattle.numbers.specs.Bytes.{bytes_of}
use Rattle.tile.proofs.rewrite.write_pair.Goals as goal

pub returns : goal.returns
unfolding pair
returns c =
    let a = c.args in
    let second = length_bytes 4 a.down in
    cc (put_put a.out.now (marker + a.place) (bytes_of 4 a.across) (bytes_of 4 a.down) 4 (length_bytes 4 _) (omega (arith, second)))
