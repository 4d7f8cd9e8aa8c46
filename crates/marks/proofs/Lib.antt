pub mod Words
pub mod Sets
