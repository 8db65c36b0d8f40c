pub mod Layout
pub mod Netting
pub mod Operations
pub mod Records
pub mod Reports
