pub mod Keys
pub mod OrderLaws
