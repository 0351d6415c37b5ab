pub mod Steps
pub mod Accepted
pub mod Happenings
pub mod Serialisations
pub mod Splits
pub mod Failures
pub mod NamedSteps
