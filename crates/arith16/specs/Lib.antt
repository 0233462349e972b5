-- What a reader has to believe about the 16 bit arithmetic instructions.
pub mod Arith16
