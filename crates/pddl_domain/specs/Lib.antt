pub mod Declarations
pub mod Actions
pub mod Domains
