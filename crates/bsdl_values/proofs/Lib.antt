pub mod PartLaws
pub mod PatternLaws
pub mod PassingLaws
