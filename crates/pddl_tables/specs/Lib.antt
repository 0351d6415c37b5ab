pub mod Prices
pub mod Lookups
