pub mod Index
pub mod Sort
pub mod Merge
pub mod Run
pub mod Extend
pub mod Entries
