pub mod ErrorText
pub mod Form
pub mod FormTests
pub mod Table
pub mod Readers
pub mod AnySpelling
pub mod Text
pub mod inside
