pub mod ByteLemmas
pub mod BitLemmas
pub mod SetLemmas
pub mod RunLemmas
pub mod CountLemmas
