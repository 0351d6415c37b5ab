-- What the code and the proofs go by: second forms of what stands beside this folder, and how values are held.
pub mod ProblemReading
pub mod Slots
pub mod InitTexts
pub mod ObjectTexts
pub mod OnePass
