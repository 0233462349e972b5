pub mod Known
pub mod Marks
