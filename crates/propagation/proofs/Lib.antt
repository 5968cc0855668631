pub mod Following
pub mod Short
pub mod Propagating
pub mod Keeping
