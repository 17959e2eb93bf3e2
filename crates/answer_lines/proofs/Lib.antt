mod AuditLemmas
pub mod Beginnings
mod DueLemmas
pub mod NumberLemmas
mod PrintLemmas
mod StateLemmas
