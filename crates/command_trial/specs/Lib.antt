-- The text of a trial's lines, and the pieces and turns that its log is tried in.
-- The trial itself is defined in crate journal_trial_spec, the sums over pieces in crate journal_trial.
pub mod Text
pub mod Cut
pub mod Turns
