pub mod State
pub mod Calls
pub mod Laws
pub mod Sweep
pub mod Of
