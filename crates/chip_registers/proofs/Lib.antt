pub mod UserLaws
pub mod DataLaws
