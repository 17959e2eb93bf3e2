pub mod Reading
pub mod Reasons
pub mod SortedKeys
pub mod MenuReasons
