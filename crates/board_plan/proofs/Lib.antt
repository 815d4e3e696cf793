pub mod BitLaws
pub mod NumberLaws
pub mod LeftOutLaws
pub mod CellLaws
pub mod TableLaws
