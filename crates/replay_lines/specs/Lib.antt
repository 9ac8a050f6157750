pub mod Answer
pub mod Fields
pub mod Lent
pub mod Parts
pub mod Table
