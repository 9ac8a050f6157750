pub mod Foresees
pub mod Tells
