-- What a reader has to believe about 8 bit loads.
pub mod Load8
