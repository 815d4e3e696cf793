pub mod CodeLaws
pub mod Instructions
pub mod Lines
pub mod Nets
pub mod Numbers
pub mod Pins
pub mod Times
