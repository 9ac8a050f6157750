pub mod Reading
pub mod Cars
