pub mod Examples
pub mod Levels
pub mod Portions
pub mod Bounds
pub mod Limits
pub mod Ahead
pub mod Covering
