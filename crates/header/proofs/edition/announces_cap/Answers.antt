-- The test is the definition's: bit 14 by a division and a remainder.
use Rattle.numbers.specs.Bits.{bit}
use Rattle.header.specs.Edition.{announced}
use Rattle.header.proofs.edition.announces_cap.Goals as goal

pub returns : goal.returns
unfolding announced bit
returns c = rw c.read_u16.ensures
