pub mod Answers
pub mod Parts
pub mod Running
pub mod Replies
pub mod Checks
pub mod View
