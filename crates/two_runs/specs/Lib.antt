pub mod Demand
pub mod Refills
