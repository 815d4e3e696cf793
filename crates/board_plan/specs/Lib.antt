pub mod Planned
pub mod PinNumbers
pub mod Words
pub mod LeftOut
pub mod View
pub mod CellNets
pub mod AllCellNets
