pub mod Bytes
pub mod Serving
