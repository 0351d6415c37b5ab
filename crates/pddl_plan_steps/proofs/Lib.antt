pub mod NamedSteps
pub mod Framed
pub mod PlanSteps
pub mod NamedFrames
pub mod OnlyHappenings
