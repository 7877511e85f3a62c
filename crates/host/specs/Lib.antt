pub mod Check
pub mod Components
pub mod Extent
pub mod Find
pub mod Offsets
pub mod Search
pub mod Siz
