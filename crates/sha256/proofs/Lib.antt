pub mod Pieces
pub mod CutAnywhere
pub mod Padding
pub mod Joined
pub mod Smallest
