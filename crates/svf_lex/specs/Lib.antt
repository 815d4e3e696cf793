pub mod Bytes
pub mod Cutting
pub mod Gaps
pub mod Laws
pub mod Left
pub mod Lexed
pub mod Scanning
pub mod Statements
