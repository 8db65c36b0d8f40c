pub mod BeforeFloor
pub mod BeforeLosses
pub mod BeforeSwaps
pub mod Before2023
pub mod Books
pub mod Days
pub mod Deals
pub mod Rules
