-- `journal_merge` hands the third buffer on and has the words of the answer written.
-- Assumes nothing.
use Rattle.capi.proofs.MergeOutcome.{merge_told}
use Rattle.capi.proofs.merge.journal_merge.Goals as goal

pub returns : goal.returns
returns c =
    let called = c.merge-m in
    let told = merge_told called.result _ _ _ called.ensures c.put_merged.ensures in
    record { c_after = told.0; out_after = told.1 }
