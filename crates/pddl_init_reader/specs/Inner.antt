-- What the code and the proofs go by: second forms of what pddl_problem says of items of `:init` and metrics.
pub mod InitReading
