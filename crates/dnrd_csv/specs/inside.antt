pub mod Fields
pub mod RowKeys
pub mod RowReading
pub mod Rows
pub mod Spellings
