pub mod CommandLaws
pub mod NumberLaws
pub mod RequestLaws
pub mod UsageRows
