pub mod Auditing
pub mod Digests
pub mod Due
pub mod Lines
pub mod Number
pub mod Printing
pub mod State
pub mod Statuses
