-- `refused` looks at the log first. Assumes nothing.
use Rattle.journal_trial.proofs.Deciding.{refused_read, refused_line}
use Rattle.journal_trial.proofs.answer.refused.Goals as goal

pub returns-in-Ok : goal.returns-in-Ok
returns-in-Ok c = refused_read _ _ _ _ _ c.in-Ok.ensures

pub returns-in-Err : goal.returns-in-Err
returns-in-Err c = refused_line _ _ _ _ _ c.in-Err.ensures
