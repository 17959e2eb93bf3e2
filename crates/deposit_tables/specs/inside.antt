pub mod Changing
pub mod Packing
pub mod Places
pub mod Restoring
