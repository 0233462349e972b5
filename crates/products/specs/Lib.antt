-- What a reader has to believe about products, in reading order.
pub mod Products
pub mod Known
