pub mod BlockLaws
pub mod CoverLaws
pub mod RowsCompute
pub mod TakingLaws
pub mod TextLaws
