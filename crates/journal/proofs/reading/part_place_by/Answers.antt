-- `part_place_by` hands on the part that the pass over the journal kept, and none where there is none or the journal is damaged.
-- Assumes nothing.
use mathlib.Core.Path.{◌∙◌}
use Rattle.journal.specs.Handed.{as_rule}
use Rattle.journal.proofs.Answering.{place_there, place_absent, place_damaged, place_part}
use Rattle.journal.proofs.reading.part_place_by.Goals as goal

pub returns : goal.returns
returns c =
    let a = c.args in
    let place = place_there (as_rule a.rule) a.v.now a.len a.i c.contents_of.result c.contents_of.ensures
    c.in-Ok.contents c.in-Ok.is c.in_ok-shown.shown c.in_ok-shown.was in
    record { place = place; value = place_part _ _ _ _ _ place }

pub returns-in_err-shown : goal.returns-in_err-shown
returns-in_err-shown c =
    let a = c.args in
    let place = c.from_residual.ensures
    ∙ place_absent (as_rule a.rule) a.v.now a.len a.i c.contents_of.result c.contents_of.ensures c.in-Ok.contents c.in-Ok.is c.in_err-shown.was in
    record { place = place; value = place_part _ _ _ _ _ place }

pub returns-in_default : goal.returns-in_default
returns-in_default c =
    let a = c.args in
    let place = place_damaged (as_rule a.rule) a.v.now a.len a.i c.contents_of.result c.contents_of.ensures _ c.in_default.is in
    record { place = place; value = place_part _ _ _ _ _ place }
