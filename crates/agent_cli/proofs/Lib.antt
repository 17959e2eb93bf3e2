mod DueLemmas
pub mod Examples
pub mod FoldLemmas
pub mod FormLemmas
mod HelpLemmas
pub mod LineLemmas
mod OneReading
pub mod PathLemmas
pub mod Readings
mod ReadLemmas
mod SweepLemmas
pub mod NamedLemmas
