pub mod Counts
pub mod Frames
pub mod Writes
pub mod Losses
