pub mod Sot
pub mod Scan
pub mod Walk
pub mod Begin
pub mod Split
pub mod Tiles
pub mod Iso
pub mod Order
