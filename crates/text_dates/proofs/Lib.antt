-- Laws of dates: what a whole month and a whole year make, that each day has a date and that dates rise, the last day; closed cases.
pub mod Passing
mod Loops
pub mod Dates
pub mod Range
mod Examples
