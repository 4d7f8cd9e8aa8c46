pub mod Grammar
pub mod Parse
pub mod Exact
