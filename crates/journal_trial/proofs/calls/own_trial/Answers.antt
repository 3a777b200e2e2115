-- `own_trial` refuses by 10, and else tries the record at the entry's start.
-- Assumes nothing.
use Rattle.std.proofs.Common.{ap, ◌∙◌, Err, arith}
use Rattle.journal_trial.proofs.Deciding.{entry_absent, tried_at, tryable_at, own_count}
use Rattle.journal_trial.proofs.calls.own_trial.Goals as goal

pub returns-then-count-position : goal.returns-then-count-position
returns-then-count-position c =
    let o = c.requires in
    let n = own_count _ _ _ o _ c.number_in-count.ensures in
    ap Err c.refused.ensures ∙ entry_absent _ _ _ _ _ o.records o.committed o.stands o.own (omega (arith, n))

pub try_record-requires : goal.try_record-requires
try_record-requires c =
    let o = c.requires in
    let n = own_count _ _ _ o _ c.number_in-count.ensures in
    let log = c.args.log.now in
    tryable_at log _ _ _ _ o.records o.committed o.stands o.own o.bytes (omega (arith, n)) _ c.record_start.ensures

pub returns : goal.returns
returns c =
    let o = c.requires in
    let n = own_count _ _ _ o _ c.number_in-count.ensures in
    tried_at _ _ _ _ _ o.records o.committed o.stands o.own o.bytes (omega (arith, n)) _ _
    c.record_start.ensures c.try_record.ensures
