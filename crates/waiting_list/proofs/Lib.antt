pub mod Fair
pub mod Gone
pub mod Moved
pub mod Oldest
pub mod Places
pub mod Round
