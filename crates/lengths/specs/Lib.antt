pub mod Segments
pub mod Places
pub mod Check
pub mod Agree
pub mod Iso
