pub mod Ranged
pub mod Runs
pub mod Proved
pub mod Waits
pub mod Fair
pub mod Live
