pub mod Execute
pub mod Tried
