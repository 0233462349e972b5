pub mod Deliver
pub mod Known
