pub use Rattle.board_parts.specs.Strings
pub mod Loops
pub mod Marks
pub mod Numbers
pub mod Jobs
pub mod Depending
pub mod Renumbering
