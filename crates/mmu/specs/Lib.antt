pub mod Known
pub mod Translate
