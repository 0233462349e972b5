-- The laws of products.
pub mod Product
pub mod Known
