pub mod CompiledSteps
pub mod HeldPlans
