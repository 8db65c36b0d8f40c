pub mod Examples
pub mod FieldLaws
pub mod LineLaws
pub mod NumberLaws
pub mod SovereignLaws
