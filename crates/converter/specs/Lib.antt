pub mod Convert
pub mod Steps
pub mod Theorems
