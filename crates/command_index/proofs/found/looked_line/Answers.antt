-- `looked_line` puts the record's line, or that of the error.
-- Assumes nothing.
use Rattle.command_index.specs.Found.{found_meaning, looked_line}
use Rattle.command_index.proofs.found.looked_line.Goals as goal

pub returns-in-Ok : goal.returns-in-Ok
unfolding looked_line found_meaning
returns-in-Ok c = rw c.in-Ok.is c.shown_line.ensures

pub returns-in-Err : goal.returns-in-Err
returns-in-Err c = rw c.in-Err.is c.unfound_line.ensures
