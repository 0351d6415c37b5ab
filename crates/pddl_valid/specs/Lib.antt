pub mod NamedClashes
pub mod SerialEnds
