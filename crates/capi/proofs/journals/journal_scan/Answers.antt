-- `journal_scan` hands on what `scan` answers, in words.
-- Assumes nothing.
use Rattle.capi.proofs.journals.journal_scan.Goals as goal

pub returns : goal.returns
returns c = rw (← c.scan-s.ensures) c.put_status.ensures
