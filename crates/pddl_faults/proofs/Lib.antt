pub mod ListTurns
pub mod Verdicts
pub mod PassedParts
pub mod ViewTurns
pub mod PutValues
pub mod FoundFaults
pub mod SeenItems
