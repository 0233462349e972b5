-- The laws of sums.
pub mod Ints
pub mod Over
pub mod Pack
pub mod Past
pub mod Known
