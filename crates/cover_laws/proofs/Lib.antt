pub mod Layers
pub mod Weighted
pub mod Order
pub mod OrderShows
pub mod AnyOrder
