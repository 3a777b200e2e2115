-- `scan_and_index` hands what stands to both. Assumes nothing.
use mathlib.Core.Path.{ap, ◌∙◌}
use Rattle.journal_spec.specs.Scan.{scan_of}
use Rattle.journal.specs.Contents.{status_read}
use Rattle.journal.specs.Handed.{as_rule}
use Rattle.journal.proofs.Answering.{status_read_lem}
use Rattle.journal_index.proofs.make.scan_and_index.Goals as goal

pub make_standing-made-requires : goal.make_standing-made-requires
unfolding as_rule
make_standing-made-requires c = c.contents_of-x.ensures

pub returns : goal.returns
unfolding as_rule scan_of
returns c = (c.status_of-status.ensures ∙ ap (status_read _) c.contents_of-x.ensures ∙ status_read_lem _ 0 _, c.make_standing-made.ensures)
