-- `try_record` finds the record's parts by its counts. Assumes nothing.
use Rattle.std.proofs.Common.{◌≡◌, rules}
use Rattle.std.proofs.lemmas.Result.{err_from_is_err_and}
use Rattle.journal_parts.specs.Spans.{count_of}
use Rattle.journal_trial.specs.Answers.{finished}
use Rattle.journal_trial.proofs.Answered.{tried_ok, tried_err}
use Rattle.journal_trial.proofs.answer.try_record.Goals as goal

pub returns-in_err-links : goal.returns-in_err-links
returns-in_err-links c =
    let p = err_from_is_err_and c.from_residual.result c.from_residual.ensures.1 in
    rw (p.1, p.2)
    (tried_err _ _ _ _ _ _ _ c.spans_at-s.ensures c.part_of.ensures c.part_of-2.ensures c.in_err-links.ensures)

pub returns : goal.returns
unfolding finished
returns c =
    let k : c.map_or.result ≡ count_of c.spans_at-s.result.chances = search rules in
    rw c.lowest.ensures
    (tried_ok _ _ _ _ _ _ c.in_ok-links.field-0 _ _ c.spans_at-s.ensures c.part_of.ensures c.part_of-2.ensures c.part_of-chances.ensures k
    c.in_ok-links.ensures)
