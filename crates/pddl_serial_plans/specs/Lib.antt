pub mod NewSteps
pub mod NewPlans
