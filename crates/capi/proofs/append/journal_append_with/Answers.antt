-- `journal_append_with` hands the slice and the index's buffer on and has the words of the answer written.
-- Assumes nothing.
use Rattle.capi.proofs.AppendOutcome.{beside_told}
use Rattle.capi.proofs.append.journal_append_with.Goals as goal

pub returns : goal.returns
returns c =
    let asked = c.asked_by-asked in
    let told = beside_told _ _ _ _ asked.result _ _ _ asked.ensures c.append_beside-a.result _ _ _ _
    c.append_beside-a.ensures.index_after c.append_beside-a.ensures.index_unchanged c.put_words.ensures
    in
    record { v_after = told.0; index_after = told.1.0; out_after = told.1.1 }
