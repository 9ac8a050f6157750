pub mod Digits
pub mod Turns
pub mod Sessions
pub mod Queries
pub mod Secrecy
pub mod Tries
pub mod Proved
pub mod Live
