pub mod CellFacts
pub mod Weighing
pub mod StateFacts
pub mod Passing
pub mod Assuming
