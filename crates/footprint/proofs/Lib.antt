pub mod Keeps
pub mod Core
pub mod Queue
pub mod Sessions
pub mod Lists
pub mod Proved
