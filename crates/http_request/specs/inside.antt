pub mod BodyReading
pub mod BodyTexts
pub mod Fields
