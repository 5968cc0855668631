pub mod Renumbering
pub mod Making
pub mod Refining
pub mod Sweeping
pub mod Filling
pub mod Asking
pub mod Carrying
pub mod Lowest
