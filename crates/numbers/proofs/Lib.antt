pub mod BitsLaws
pub mod BytesLaws
pub mod Rows
pub mod Turned
pub mod Choice
