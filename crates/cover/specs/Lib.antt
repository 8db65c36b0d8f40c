pub mod Cover
pub mod Limits
