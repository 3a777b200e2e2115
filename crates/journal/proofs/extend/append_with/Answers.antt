-- `append_with` scans the journal, hands a fault on, and else lets the offer join what stands.
-- Assumes nothing.
use mathlib.Core.Path.{refl}
use Rattle.journal_spec.specs.Request.{gather_by, times_of}
use Rattle.journal.proofs.Answering.{append_stands, append_damaged}
use Rattle.journal.proofs.extend.append_with.Goals as goal

pub returns-in-Ok : goal.returns-in-Ok
unfolding times_of gather_by
returns-in-Ok c =
    let read = c.contents_of in
    append_stands _ _ _ 0 read.result read.ensures _ c.in-Ok.is _ _ refl refl _ (c.extend_by.ensures _)

pub returns-in-Err : goal.returns-in-Err
unfolding times_of gather_by
returns-in-Err c =
    let read = c.contents_of in
    append_damaged _ _ _ 0 read.result read.ensures _ c.in-Err.is _ _ refl refl refl
