pub mod Building
pub mod Levels
pub mod Places
pub mod Rows
pub mod Wired
