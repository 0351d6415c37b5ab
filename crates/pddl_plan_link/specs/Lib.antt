pub mod StepVerdicts
