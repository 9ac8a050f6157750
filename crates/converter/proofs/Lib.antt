pub mod Meaning
pub mod Theorems
pub mod Long
pub mod Laws
pub mod Cases
