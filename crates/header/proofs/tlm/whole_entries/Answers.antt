-- An entry's size is at least 2, so it divides.
use Rattle.header.proofs.tlm.whole_entries.Goals as goal

pub returns : goal.returns
returns c = rw (c.index_size.ensures, c.length_size.ensures)
