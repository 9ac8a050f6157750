pub mod Bytes
pub mod Items
pub mod Takes
pub mod Values
