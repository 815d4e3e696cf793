pub mod Contending
pub mod Covering
pub mod Lines
pub mod Rows
pub mod Told
pub mod Tallies
