-- `begin` hands on what the one pass answers, and looks at the index that it made. Assumes nothing.
use Rattle.journal_report.proofs.Made.{begins}
use Rattle.journal_report.proofs.beginning.begin.Goals as goal

pub returns : goal.returns
returns c =
    let pass = c.scan_and_index-scanned in
    begins _ _ _ _ _ _ _ pass.ensures.0 pass.ensures.1 c.names_of.ensures c.name_width-width.ensures
