pub mod PlaceLaws
pub mod TextLaws
pub mod SpellLaws
pub mod TrimLaws
pub mod FollowLaws
pub mod ValueLaws
pub mod KeyLaws
