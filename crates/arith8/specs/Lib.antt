-- What a reader has to believe about the 8 bit arithmetic instructions.
pub mod Arith8
