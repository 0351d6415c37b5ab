pub mod Clashes
pub mod NamedPlans
pub mod Verdicts
pub mod NamedRuns
pub mod Replays
