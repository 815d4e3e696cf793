pub use Rattle.chip_instructions.specs.declared.Mode
pub mod Registers
pub mod Plain
pub mod Users
pub mod Data
