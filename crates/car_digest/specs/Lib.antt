pub mod CarDigest
