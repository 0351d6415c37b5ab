-- What the code and the proofs go by: second forms of what stands beside this folder, and how values are held.
pub mod Nesting
pub mod NextItems
pub mod NextWords
