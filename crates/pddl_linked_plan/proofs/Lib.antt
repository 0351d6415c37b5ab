pub mod Numbers
pub mod NameNumbers
pub mod InitialAtoms
pub mod NumberedObjects
pub mod StepTests
pub mod GoodSteps
pub mod SoundSteps
pub mod HeldSteps
pub mod KnownSteps
mod StepExamples
