pub mod Stores
pub mod Gains
pub mod Frames
pub mod Turns
pub mod Proved
