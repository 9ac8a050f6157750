pub mod Store
pub mod Places
