pub mod Numbers
pub mod Text
pub mod Written
pub mod Progress
pub mod Results
