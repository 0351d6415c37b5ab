pub mod Reads
pub mod Fires
pub mod Costs
