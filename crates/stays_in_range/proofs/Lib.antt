pub mod Parts
pub mod Cars
pub mod Digests
pub mod Calls
pub mod Queue
pub mod Proved
pub mod Needed
