pub mod Fields
pub mod Lines
pub mod Numbers
pub mod Sovereign
