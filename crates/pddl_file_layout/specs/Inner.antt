-- What the code and the proofs go by: second forms of what stands beside this folder, and how values are held.
pub mod PartLists
pub mod DomainPieces
pub mod Texts
pub mod Printing
