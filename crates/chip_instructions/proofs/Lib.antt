pub mod DecodeLaws
pub mod StartLaws
pub mod TableLaws
