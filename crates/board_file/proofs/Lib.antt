pub mod CountLaws
pub mod DescribedLaws
pub mod BoardLaws
pub mod FitLaws
pub mod TwiceLaws
pub mod LoopLaws
pub mod WithinLaws
pub mod RefusedLaws
mod UnfitLaws
