pub mod Period
pub mod Scaling
pub mod Stored
pub mod TimeFactor
