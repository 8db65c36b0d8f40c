pub mod Scaled
pub mod Below
pub mod Factors
pub mod Periods
pub mod StoredFigures
pub mod DailyDeals
