pub mod PickedSteps
pub mod ScaledMoments
pub mod NewPlans
mod AddedNames
