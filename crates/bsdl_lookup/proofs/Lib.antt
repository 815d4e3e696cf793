pub mod KeyLaws
pub mod NamedPortLaws
pub mod RangeLaws
pub mod DriverLaws
