pub mod Search
pub mod Keeping
pub mod Implied
