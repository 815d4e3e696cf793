pub mod Explaining
pub mod Kept
pub mod Laws
pub mod Lines
pub mod Passed
pub mod Rows
pub mod Runs
pub mod Wanted
