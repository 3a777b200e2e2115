-- Four layers, in the order in which they build on each other, one idea to a file:
-- rounding keeps order, and nothing added changes nothing (Keeps, Nothing); limits and bands follow their quantiles (Limits, Bands);
-- `erf_core`, the tails and the quantile are above zero up to 1 and below it from there (Above to Signs), and what it is at every double (Everywhere);
-- on which side of the mean limits and bands lie, the profile's chances, and the same of the operations' answers (Sides to Answers).
pub mod Keeps
pub mod Nothing
pub mod Limits
pub mod Bands
pub mod Above
pub mod NearZero
pub mod Core
pub mod Signs
pub mod Everywhere
pub mod Sides
pub mod Profile
pub mod Answers
pub mod Cases
