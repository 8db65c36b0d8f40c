pub mod Adding
pub mod Editions
pub mod Exact
pub mod Views
