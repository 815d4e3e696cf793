pub mod FirstValues
pub mod FirstView
pub mod Describing
pub mod View
