pub mod Bytes
pub mod Decimal
pub mod NoFeeds
pub mod Text
pub mod WithinLine
