pub mod Keyed
pub mod SameItems
pub mod Split
