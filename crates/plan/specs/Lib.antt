-- What a reader has to believe about what the instructions share, in reading order.
pub mod Kinds
pub mod Places
pub mod Results
pub mod Stack
pub mod Early
