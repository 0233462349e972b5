pub mod Corollaries
pub mod ForC
pub mod Known
pub mod Once
pub mod Refusals
pub mod Runs
pub mod Withhold
