pub mod StepFaults
pub mod LinkedSteps
pub mod StepParts
pub mod FittingObjects
pub mod KnownSteps
pub mod LinkedLaws
pub mod NumberedAtoms
