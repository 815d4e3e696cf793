pub mod CompareLaws
pub mod LaneLaws
