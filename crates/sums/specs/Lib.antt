-- What a reader has to believe about sums, in reading order.
pub mod Width
pub mod Flag
pub mod Sums
pub mod Known
