-- The laws of logic.
pub mod Known
