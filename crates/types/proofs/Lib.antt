pub mod IsoSiz
pub mod Offsets
pub mod RowLaws
pub mod RowReading
pub mod RowStanding
