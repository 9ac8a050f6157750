pub mod Turns
pub mod Proved
pub mod Live
