-- What a reader has to believe about the instructions that change control registers.
pub mod Govern
