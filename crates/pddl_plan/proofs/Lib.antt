mod CutLists
mod NamesHeld
mod BuiltPlans
mod LentSteps
pub mod GotNames
