pub mod Swaps
pub mod Apart
