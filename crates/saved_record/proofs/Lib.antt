pub mod Laws
pub mod Parts
pub mod RoundTrip
pub mod Cases
