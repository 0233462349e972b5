pub mod Saves
pub mod Words
