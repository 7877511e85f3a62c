pub mod Bits
pub mod Bytes
pub mod Ceiling
pub mod Rows
pub mod Turned
