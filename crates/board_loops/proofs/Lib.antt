pub mod LoopLaws
pub mod MarkLaws
pub mod NumberLaws
pub mod OnceLaws
pub mod OrderLaws
pub mod DependingLaws
pub mod RenumberingLaws
