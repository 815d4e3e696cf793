pub mod Explanations
pub mod Kept
pub mod Passing
pub mod Plates
pub mod Reasons
pub mod RowsCompute
pub mod WantedSteps
pub mod ToldLaws
