pub mod Probe
pub mod Session
