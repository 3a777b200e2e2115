-- `append_beside` hands the index on, or none, and then its buffer is as it was.
-- Assumes nothing.
use Rattle.journal_index.proofs.Beside.{with_index, without_index}
use Rattle.journal_index.proofs.append.append_beside.Goals as goal

pub returns : goal.returns
returns c =
    let h = with_index _ _ c.append_indexed.result _ _ _ _ _ _ _ _ _ c.if-not-indexed.false _ c.append_indexed.ensures in
    record { index_after = h.0; index_unchanged = h.1 }

pub returns-then-not-indexed : goal.returns-then-not-indexed
returns-then-not-indexed c =
    let h = without_index _ _ c.append_with.result _ _ _ _ _ _ _ _ _ c.if-not-indexed.true c.append_with.ensures in
    record { index_after = h.0; index_unchanged = h.1 }
