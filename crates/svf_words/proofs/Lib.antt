pub mod KeywordLaws
pub mod WordTaken
pub mod Digits
pub mod MeasureLaws
pub mod NumberLaws
pub mod WrittenLaws
pub mod WithinLaws
