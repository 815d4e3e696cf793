pub use Rattle.bsdl_device.specs.Device
pub use Rattle.bsdl_device.specs.declared.Cell
pub use Rattle.bsdl_device.specs.declared.Function
pub mod Instruction
pub mod Fitting
pub mod OpcodeTable
