pub mod Cuttings
pub mod RowsOfParts
pub mod Endings
pub mod Order
pub mod Parts
pub mod Rows
pub mod Steps
