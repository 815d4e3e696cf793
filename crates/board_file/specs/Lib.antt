pub mod Wiring
pub mod View
pub mod Refusals
pub mod Fits
pub mod Ports
pub mod Within
