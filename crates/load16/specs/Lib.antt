-- What a reader has to believe about 16 bit loads and exchanges, in reading order.
pub mod Exchange
pub mod Word
pub mod Stack
