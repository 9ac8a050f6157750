pub mod All
pub mod Laws
pub mod Lists
pub mod Stores
pub mod Proved
