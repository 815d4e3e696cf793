pub mod Counted
pub mod Marks
pub mod Counting
pub mod Tallying
pub mod NetsKept
pub mod Passing
pub mod VerdictLines
