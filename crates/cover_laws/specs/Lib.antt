pub mod ByHand
pub mod Layers
pub mod Sorted
