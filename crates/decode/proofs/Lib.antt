pub mod Table
pub mod Counts
