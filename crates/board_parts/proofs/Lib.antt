pub mod FileLaws
pub mod LibraryLaws
pub mod IndexLaws
pub mod PinLaws
pub mod StringLaws
pub mod TwiceLaws
