pub mod Fronts
pub mod Pieces
