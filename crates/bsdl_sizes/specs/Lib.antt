pub mod Spots
pub mod Lengths
pub mod Counting
pub mod Limits
pub mod Sizes
pub mod SizeRows
