pub mod Answers
pub mod Query
