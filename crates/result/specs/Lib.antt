pub mod List
pub mod Numbers
pub mod Result
