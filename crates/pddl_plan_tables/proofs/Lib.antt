pub mod HeldNames
pub mod NamedActions
pub mod SomeEffects
pub mod NoCosts
pub mod HeldChanges
