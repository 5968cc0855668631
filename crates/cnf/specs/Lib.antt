pub mod Truth
pub mod Words
pub mod Table
pub mod Finite
pub mod Laws
pub mod Open
