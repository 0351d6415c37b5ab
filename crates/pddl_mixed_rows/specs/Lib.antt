pub mod SparseRows
pub mod MixedRows
