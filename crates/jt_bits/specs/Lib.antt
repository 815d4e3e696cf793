pub mod Hex
pub mod Lengths
pub mod Order
pub mod OrderLaws
pub mod Packed
pub mod Runs
pub mod Shifting
pub mod Words
