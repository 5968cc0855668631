pub mod Rewriting
pub mod Walking
