pub mod Extents
pub mod Limits
pub mod Staged
pub mod Words
pub mod Map
