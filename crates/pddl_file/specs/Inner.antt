-- What the code and the proofs go by: second forms of what stands beside this folder, and how values are held.
pub mod WordReading
pub mod FileReading
pub mod Begun
