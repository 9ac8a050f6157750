pub mod Laws
pub mod Shorter
