-- `start` stands before the first line, by what the scan answers.
-- Assumes nothing.
use Rattle.journal_listing.specs.Lines.{position_of, before, start_of}
use Rattle.journal_listing.proofs.start.Goals as goal

pub returns : goal.returns
unfolding position_of start_of before
returns c = rw (c.listed.ensures, c.scan_by-status.ensures)
