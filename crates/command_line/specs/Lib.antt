pub mod Asking
pub mod Tables
pub mod Usage
pub mod View
