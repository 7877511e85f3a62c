pub mod Markers
pub mod Offsets
pub mod Area
pub mod Row
pub mod Layout
pub mod Refusals
pub mod Siz
pub mod IsoSiz
