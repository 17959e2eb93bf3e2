pub mod Schema
pub mod Reading
pub mod StoreState
pub mod Calls
pub mod Statements
pub mod TypedRows
pub mod Dropping
pub mod inside
