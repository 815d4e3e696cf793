pub use Rattle.play_direct.proofs.WholePlay
pub mod RunLaws
pub mod HeadlineLaws
pub mod KindLaws
pub mod ConnectionLaws
