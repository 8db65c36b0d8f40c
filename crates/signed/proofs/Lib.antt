pub mod Examples
pub mod Less
pub mod Machine
pub mod Ceiling
