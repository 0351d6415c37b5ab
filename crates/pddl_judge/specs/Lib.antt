pub mod HappeningValues
pub mod Touches
pub mod Verdicts
pub mod Stages
pub mod Moments
