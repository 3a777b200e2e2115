-- `make_index` is `scan_and_index` without the scan's answer. Assumes nothing.
use Rattle.journal_index.proofs.make.make_index.Goals as goal

pub returns : goal.returns
returns c = c.scan_and_index.ensures.1
