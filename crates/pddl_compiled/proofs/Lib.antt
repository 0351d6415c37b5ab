pub mod Binders
mod Cases
pub mod Rows
pub mod Quantifiers
pub mod Numbers
pub mod Same
pub mod Parameters
pub mod Examples
