-- `limit_section_at` reads the count, which has to be that of the chances, and then so many limits.
-- Assumes nothing.
use mathlib.Core.Path.{refl, ◌∙◌}
use native.Mathlib.Omega.{arith}
use Rattle.limit.specs.Answer.{moments_meaning}
use Rattle.std.proofs.lemmas.Result.{err_from_is_err_and}
use Rattle.journal.proofs.LimitsLoop.{count_there, section_limits, limits_halted}
use Rattle.journal.proofs.limits.limit_section_at.Goals as goal

pub limits_at-requires : goal.limits_at-requires
limits_at-requires c =
    let a = c.args in
    let there = count_there a.b.now a.at a.n a.chances (moments_meaning a.worked) _ c.in_ok-_count.ensures _ refl in
    (omega (arith, there.1, c.requires.0), c.requires.1)

pub returns : goal.returns
returns c =
    let a = c.args in
    c.limits_at.ensures
    ∙ section_limits a.b.now a.at a.n a.chances (moments_meaning a.worked) _ c.in_ok-_count.ensures _ refl

pub returns-in_err-_count : goal.returns-in_err-_count
returns-in_err-_count c =
    let a = c.args in
    let p = err_from_is_err_and c.from_residual.result c.from_residual.ensures.1 in
    rw (p.1, p.2)
    (limits_halted a.b.now a.at a.n a.chances (moments_meaning a.worked) _ c.in_err-_count.ensures _ refl)
