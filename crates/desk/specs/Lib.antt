pub mod Checks
pub mod Grounds
pub mod Lines
pub mod Standing
pub mod inside
