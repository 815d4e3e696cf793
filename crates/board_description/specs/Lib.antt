pub mod Blocks
pub mod Covered
pub mod Described
pub mod Kept
pub mod Opcodes
pub mod Rows
pub mod Samples
pub mod Words
