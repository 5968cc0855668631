pub mod Cells
pub mod States
pub mod Solving
