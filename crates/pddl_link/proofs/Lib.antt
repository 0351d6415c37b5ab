pub mod NamedWell
pub mod Stages
