pub mod Cars
pub mod Record
pub mod Cases
