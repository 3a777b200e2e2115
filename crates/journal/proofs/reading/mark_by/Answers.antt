-- `mark_by` refuses as scan does, then an i that is not below the number of records; else the mark is that of what was kept.
-- Assumes nothing.
use mathlib.Core.Path.{ap, ◌∙◌}
use Rattle.journal_spec.specs.Read.{marked}
use Rattle.journal.specs.Answers.{mark_meaning}
use Rattle.journal.specs.Handed.{as_rule}
use Rattle.journal.proofs.Answering.{mark_there, mark_absent, mark_damaged}
use Rattle.journal.proofs.reading.mark_by.Goals as goal

pub returns-in-Some : goal.returns-in-Some
unfolding mark_meaning
returns-in-Some c =
    let a = c.args in
    ap marked c.mark_from.ensures
    ∙ mark_there (as_rule a.rule) a.v.now a.len a.i c.contents_of.result c.contents_of.ensures
    c.in-Ok.contents c.in-Ok.is c.in-Some.shown c.in-Some.is

pub returns-in-None : goal.returns-in-None
unfolding mark_meaning
returns-in-None c =
    let a = c.args in
    mark_absent (as_rule a.rule) a.v.now a.len a.i c.contents_of.result c.contents_of.ensures
    c.in-Ok.contents c.in-Ok.is c.in-None.is

pub returns-in-Err : goal.returns-in-Err
unfolding mark_meaning
returns-in-Err c =
    let a = c.args in
    mark_damaged (as_rule a.rule) a.v.now a.len a.i c.contents_of.result c.contents_of.ensures c.in-Err.fault c.in-Err.is
