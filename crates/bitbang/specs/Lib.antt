pub use Rattle.tck_cycles.specs.Cycles
pub use Rattle.tck_cycles.specs.Legal
pub use Rattle.tck_cycles.specs.Steps
pub use Rattle.bitbang_protocol.specs.Protocol
pub mod StepMessages
pub mod Left
