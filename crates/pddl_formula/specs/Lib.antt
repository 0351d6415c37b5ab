pub mod Reserved
pub mod Terms
pub mod TypedLists
pub mod Groups
pub mod Formulas
