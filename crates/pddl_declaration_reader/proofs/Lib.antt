pub mod DeclarationLaws
pub mod ActionLaws
pub mod DeclarationTurns
pub mod SlotLaws
