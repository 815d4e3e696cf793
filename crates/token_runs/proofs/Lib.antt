pub mod CutSteps
pub mod Lines
pub mod OneCutting
pub mod RunFronts
pub mod RunsAtOnce
