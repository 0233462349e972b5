pub mod Kept
pub mod Loop
