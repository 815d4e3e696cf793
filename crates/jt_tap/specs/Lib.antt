pub mod Controller
pub mod Words
pub mod Paths
pub mod Stated
