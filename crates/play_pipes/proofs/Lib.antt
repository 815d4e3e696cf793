pub use Rattle.play_links.proofs.HonestLink
pub use Rattle.play_links.proofs.LoopHonest
pub mod Steps
pub mod Together
pub mod RoundsEnd
pub mod Ends
pub mod Inside
pub mod Holding
