pub mod SparseNumbers
pub mod MergedNumbers
pub mod KeptNumbers
