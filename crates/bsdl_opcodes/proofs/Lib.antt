pub mod NameSetLaws
pub mod OwnLaws
pub mod UserLaws
pub mod BitLaws
pub mod FirstLaws
pub mod MatchLaws
