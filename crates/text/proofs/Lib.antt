pub mod Bytes
pub mod Decimal
pub mod Ends
pub mod Equal
pub mod Examples
pub mod Lines
pub mod WholeLines
