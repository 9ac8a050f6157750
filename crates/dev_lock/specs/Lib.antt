pub mod DevLock
