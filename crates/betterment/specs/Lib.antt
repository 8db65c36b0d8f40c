pub mod Betterments
pub mod Places
