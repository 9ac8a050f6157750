pub mod Marks
pub mod Kept
