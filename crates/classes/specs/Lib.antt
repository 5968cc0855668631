pub mod Renumber
pub mod Marks
pub mod Classes
pub mod Group
pub mod Lowest
