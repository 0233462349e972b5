pub mod Board
pub mod Access
pub mod Leave
pub mod Write
