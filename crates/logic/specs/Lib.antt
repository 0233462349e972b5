-- What a reader has to believe about logic, in reading order.
pub mod Logic
pub mod Shift
pub mod Known
