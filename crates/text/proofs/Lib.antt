pub mod Encodes
pub mod Scan
pub mod Same
pub mod Groups
pub mod Spaced
pub mod Cases
