pub mod Tx
pub mod Verdict
