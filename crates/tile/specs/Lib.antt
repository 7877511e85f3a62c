pub mod Siz
pub mod Original
pub mod AnnexB
pub mod Rules
pub mod Rewrite
pub mod Assembly
pub mod Iso
pub mod FromParts
