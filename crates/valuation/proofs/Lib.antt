pub mod PartialRecognition
pub mod CombinedHaircut
pub mod Values
pub mod Valuations
