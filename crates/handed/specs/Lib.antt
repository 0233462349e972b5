pub mod Codec
pub mod Handed
