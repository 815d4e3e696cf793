pub mod NameSets
pub mod Own
pub mod Users
pub mod UserView
pub mod Accesses
pub mod ResetOpcode
