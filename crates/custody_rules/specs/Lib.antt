pub mod Blocks
pub mod Breaks
pub mod DueDays
pub mod Explaining
pub mod Fetching
pub mod Judging
pub mod Rulings
pub mod inside
