pub mod Lines
pub mod Guess
pub mod Walk
