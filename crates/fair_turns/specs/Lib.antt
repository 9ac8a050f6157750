pub mod Turns
pub mod Fair
