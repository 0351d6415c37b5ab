pub mod Atoms
pub mod AtomSets
