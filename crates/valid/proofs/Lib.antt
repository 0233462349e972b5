pub mod Descriptor
pub mod Known
pub mod Unique
