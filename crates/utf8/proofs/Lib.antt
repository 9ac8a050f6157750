pub mod Ranges
pub mod Octets
pub mod Utf8
