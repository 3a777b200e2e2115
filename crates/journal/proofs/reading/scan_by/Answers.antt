-- `scan_by` answers by what stands in the journal.
-- Assumes nothing.
use mathlib.Core.Path.{ap, ◌∙◌}
use Rattle.journal_spec.specs.Scan.{scan_of}
use Rattle.journal.specs.Contents.{status_read}
use Rattle.journal.proofs.Answering.{status_read_lem}
use Rattle.journal.proofs.reading.scan_by.Goals as goal

pub returns : goal.returns
unfolding scan_of
returns c = c.status_of.ensures ∙ ap (status_read _) c.contents_of-x.ensures ∙ status_read_lem _ 0 _
