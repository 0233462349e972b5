pub mod Ran
pub mod Table
