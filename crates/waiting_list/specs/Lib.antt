pub mod Fair
pub mod Queue
