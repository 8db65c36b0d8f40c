pub mod Following
pub mod Apart
pub mod Answered
pub mod Refusals
pub mod Written
