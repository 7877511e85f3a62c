pub mod Scan
pub mod MainHeader
pub mod Tables
