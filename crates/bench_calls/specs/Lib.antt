pub mod Seen
pub mod Held
pub mod Rounds
