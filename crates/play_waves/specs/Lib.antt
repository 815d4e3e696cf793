pub mod Fronts
pub mod Plain
pub mod Rows
pub mod Samples
pub mod Stages
pub mod Texts
pub mod Laws
