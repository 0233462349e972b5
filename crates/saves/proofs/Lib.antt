pub mod Stack
pub mod Words
