pub mod Digits
pub mod Levels
pub mod Lines
pub mod Names
pub mod Rows
pub mod Statuses
pub mod Texts
pub mod Told
