pub mod Legal
pub mod Held
pub mod Refusal
