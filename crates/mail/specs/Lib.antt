pub mod Bytewise
pub mod Feeds
pub mod Listed
pub mod Mail
pub mod Mailed
pub mod OnRuns
pub mod Reply
pub mod Working
