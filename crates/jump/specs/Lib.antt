-- What a reader has to believe about program control.
pub mod Jump
