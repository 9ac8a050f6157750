pub mod Table
pub mod Asked
