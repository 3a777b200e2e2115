-- Laws on the refusals' numbers.
pub mod Numbers
