pub mod LookBack
pub mod Periods
pub mod Refusals
pub mod Programs
pub mod Running
pub mod Held
pub mod Reading
pub mod Laws
