pub mod Haircuts
pub mod Protection
pub mod Restructuring
pub mod Valuation
pub mod Exposure
