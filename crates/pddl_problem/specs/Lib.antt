pub mod HeldNames
pub mod Inits
pub mod Problems
