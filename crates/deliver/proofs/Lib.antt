pub mod Known
pub mod Unique
