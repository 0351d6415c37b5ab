pub mod Faults
pub mod Places
pub mod Scanning
pub mod WordLists
pub mod InPieces
pub mod Inner
