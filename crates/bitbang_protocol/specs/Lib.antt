pub mod Protocol
pub mod Cycles
