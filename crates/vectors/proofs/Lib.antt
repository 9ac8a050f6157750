pub mod Repeated
pub mod Vectors
pub mod Cut
pub mod Counted
