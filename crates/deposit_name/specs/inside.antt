pub mod Pieces
pub mod ShortText
