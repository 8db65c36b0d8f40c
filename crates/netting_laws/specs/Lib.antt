pub mod Betterments
pub mod ByNumber
