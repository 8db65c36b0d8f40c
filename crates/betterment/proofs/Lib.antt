pub mod Steps
pub mod Theorem
pub mod EveryKind
pub mod Examples
