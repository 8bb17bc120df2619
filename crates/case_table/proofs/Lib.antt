pub mod Doubled
pub mod Found
