pub mod Accepted
pub mod Facts
pub mod Tests
pub mod RoundTrip
pub mod Known
