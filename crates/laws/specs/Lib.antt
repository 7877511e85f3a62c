pub mod Sample
pub mod Demand3
pub mod Region
pub mod ByIndex
