pub mod Examples
pub mod Noticed
