-- `limit_at` judges the bits by a range: the bits of the limit worked out and no other, or none where that limit is refused. The quantile is
-- that of the chance, kept or not. Assumes nothing.
use mathlib.Core.Path.{◌∙◌}
use Rattle.limit.specs.Answer.{moments_meaning}
use Rattle.journal.proofs.LimitsLoop.{limit_known, limit_given, limit_refused}
use Rattle.journal.proofs.limits.limit_at.Goals as goal

pub returns-in-Ok : goal.returns-in-Ok
returns-in-Ok c =
    let a = c.args in
    let answer = c.limit_of_quantile in
    let worked-out = limit_known (moments_meaning a.worked) c.number_at-c.result c.quantile_at-quantile.result
    answer.result answer.ensures c.quantile_at-quantile.ensures in
    c.field_at.ensures
    ∙ limit_given a.b.now (moments_meaning a.worked) a.chance a.at c.number_at-c.result answer.result
    worked-out c.number_at-c.ensures.0 c.in-Ok.f c.bits_of-bits.result c.in-Ok.is c.bits_of-bits.ensures

pub returns-in-Err : goal.returns-in-Err
returns-in-Err c =
    let a = c.args in
    let answer = c.limit_of_quantile in
    let worked-out = limit_known (moments_meaning a.worked) c.number_at-c.result c.quantile_at-quantile.result
    answer.result answer.ensures c.quantile_at-quantile.ensures in
    c.field_at-in-Err.ensures
    ∙ limit_refused a.b.now (moments_meaning a.worked) a.chance a.at c.number_at-c.result answer.result
    worked-out c.number_at-c.ensures.0 c.in-Err.field-0 c.in-Err.is
