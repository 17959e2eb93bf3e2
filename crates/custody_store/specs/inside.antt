pub mod Loading
pub mod Making
