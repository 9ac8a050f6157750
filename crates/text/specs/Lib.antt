pub mod Text
pub mod Spaced
pub mod Steps
