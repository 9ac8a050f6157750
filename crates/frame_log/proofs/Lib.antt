pub mod Reading
pub mod Bounded
pub mod Written
