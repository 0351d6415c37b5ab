pub mod Parts
pub mod Scopes
pub mod Claims
pub mod Uses
pub mod FaultParts
