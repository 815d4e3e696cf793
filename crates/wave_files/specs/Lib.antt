pub mod Changes
pub mod Codes
pub mod Drives
pub mod Extras
pub mod Heading
pub mod Laws
pub mod Values
