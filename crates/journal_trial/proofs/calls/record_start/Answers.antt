-- `record_start` reads the start of the entry at its place.
-- Assumes nothing.
use Rattle.journal_trial.specs.Answers.{start_of}
use Rattle.journal_trial.proofs.calls.record_start.Goals as goal

pub returns : goal.returns
unfolding start_of
returns c = rw (← c.entry_place.ensures) c.start_at.ensures
