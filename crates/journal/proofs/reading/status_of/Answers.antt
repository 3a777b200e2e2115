-- `status_of` is whole if the committed length is the length, else torn, and hands a fault on.
-- Assumes nothing.
use mathlib.Core.Path.{ap}
use Rattle.journal.specs.Told.{by_number}
use Rattle.journal.specs.Answers.{meaning}
use Rattle.journal.proofs.Answering.{status_whole, status_torn, status_damaged}
use Rattle.journal.proofs.reading.status_of.Goals as goal

pub returns-then-committed-len : goal.returns-then-committed-len
unfolding meaning
returns-then-committed-len c = status_whole _ _ _ (ap by_number c.in-Ok.is) c.if-committed-len.true

pub returns-else-committed-len : goal.returns-else-committed-len
unfolding meaning
returns-else-committed-len c = status_torn _ _ _ (ap by_number c.in-Ok.is) c.if-committed-len.false

pub returns-in-Err : goal.returns-in-Err
unfolding meaning
returns-in-Err c = status_damaged _ _ _ (ap by_number c.in-Err.is)
