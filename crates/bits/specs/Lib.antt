-- What a reader has to believe about single bits, rotates and shifts.
pub mod Bits
