-- `entry_start` passes the entries before the position and reads the next one's start, where it stands.
-- Assumes nothing.
use mathlib.Core.Path.{refl}
use native.Mathlib.Omega.{arith}
use Rattle.journal_entries.specs.Answers.{start_meaning}
use Rattle.journal_report.proofs.Positions.{start_beyond, start_absent, start_there}
use Rattle.journal_report.proofs.entry_start.Goals as goal

pub returns-then-count-position : goal.returns-then-count-position
unfolding start_meaning
returns-then-count-position c = start_beyond _ _ _ c.number_in-count.ensures (omega arith)

pub returns-in_err-entry : goal.returns-in_err-entry
unfolding start_meaning
returns-in_err-entry c = rw c.from_residual.ensures
    (start_absent _ _ _ c.number_in-count.ensures (omega arith) _ _ c.entry_place.ensures refl c.in_err-entry.ensures)

pub returns : goal.returns
unfolding start_meaning
returns c =
    let e = c.in_ok-entry.ensures in
    start_there _ _ _ c.number_in-count.ensures (omega arith) _ _ c.entry_place.ensures e.size _ (omega arith) e.start_is
