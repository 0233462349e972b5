-- What a reader has to believe about block moves and searches.
pub mod Block
