-- How a main header is read: a numbering and an edition, as one value.
use Rattle.header.specs.Numbering.{numbering_of}
use Rattle.header.specs.Edition.{edition_of}
use Rattle.header.specs.declared.numbering.Numbering.{Numbering}
use Rattle.header.specs.declared.numbering.Numbering.TheVariants.{CarriedOn}
use Rattle.header.specs.declared.edition.Edition.TheVariants.{Older, Newer}
use Rattle.header.specs.declared.reading.Reading.{Reading}
use Rattle.header.specs.declared.reading.ReadingNumbers.{ReadingNumbers}

-- by a numbering, in each edition
abbrev pub older_by : Numbering → Reading
older_by n = record { numbering = n; edition = Older }

abbrev pub newer_by : Numbering → Reading
newer_by n = record { numbering = n; edition = Newer }

-- where nothing is said
abbrev pub by_default : Reading
by_default = older_by CarriedOn

-- as C gives it: each choice by its own number
unfoldable pub reading_of : ReadingNumbers → Reading
reading_of numbers = record { numbering = numbering_of numbers.numbering; edition = edition_of numbers.edition }
