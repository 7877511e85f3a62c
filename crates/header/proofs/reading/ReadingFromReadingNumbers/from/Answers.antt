-- Each field by its own conversion.
use Rattle.header.specs.Reading.{reading_of}
use Rattle.header.proofs.reading.ReadingFromReadingNumbers.from.Goals as goal

pub returns : goal.returns
unfolding reading_of
returns c = λ i. record { numbering = c.from.ensures i; edition = c.from-2.ensures i }
