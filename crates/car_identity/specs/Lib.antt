pub mod CarIdentity
