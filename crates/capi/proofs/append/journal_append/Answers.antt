-- `journal_append` hands the slice on and has the words of the answer written.
-- Assumes nothing.
use Rattle.capi.proofs.AppendOutcome.{outcome_told}
use Rattle.capi.proofs.append.journal_append.Goals as goal

pub returns : goal.returns
returns c =
    let called = c.append-a in
    let told = outcome_told _ called.result _ _ _ called.ensures c.put_words.ensures
    in
    record { v_after = told.0; out_after = told.1 }
