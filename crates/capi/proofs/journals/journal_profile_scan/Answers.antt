-- `journal_profile_scan` hands on what `scan_by` answers, in words.
-- Assumes nothing.
use Rattle.journal.specs.Handed.{as_rule}
use Rattle.capi.proofs.journals.journal_profile_scan.Goals as goal

pub returns : goal.returns
unfolding as_rule
returns c = rw (← c.scan_by-s.ensures) c.put_status.ensures
