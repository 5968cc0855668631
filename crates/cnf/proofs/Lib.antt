pub mod Reading
pub mod Tables
pub mod Counting
pub mod Entries
pub mod Applying
