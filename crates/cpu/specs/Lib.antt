pub mod Program
pub mod Lead
pub mod Turns
pub mod Machine
