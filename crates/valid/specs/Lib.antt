pub mod Known
pub mod Valid
