pub mod Keeping
pub mod Assuming
