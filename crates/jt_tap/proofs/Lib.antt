pub mod Arrows
pub mod WordLaws
pub mod Legal
pub mod StatedPaths
