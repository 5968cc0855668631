pub mod Follow
pub mod Propagate
pub mod Laws
