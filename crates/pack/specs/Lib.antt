pub mod Pack
pub mod Field
