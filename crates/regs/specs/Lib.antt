-- What a reader has to believe about the registers, in reading order.
pub mod Change
pub mod Select
