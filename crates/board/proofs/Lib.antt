pub mod Access
pub mod Moments
pub mod Runs
pub mod Step
pub mod Two
pub mod Withhold
pub mod Without
