-- `journal_index` hands the buffer on and has the words of the answer written.
-- Assumes nothing.
use Rattle.capi.proofs.IndexOutcome.{made_told}
use Rattle.capi.proofs.index.journal_index.Goals as goal

pub returns : goal.returns
returns c =
    let called = c.make_index-m in
    let told = made_told called.result _ _ _ called.ensures c.put_made.ensures
    in
    record { index_after = told.0; out_after = told.1 }
