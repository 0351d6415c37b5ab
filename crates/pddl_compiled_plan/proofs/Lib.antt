pub mod Forms
pub mod HeldSteps
pub mod CompiledPlans
pub mod Filled
