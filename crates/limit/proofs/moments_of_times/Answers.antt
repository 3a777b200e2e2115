-- `moments_of_times` judges the form, then the times in one pass, as its definition does.
-- The sums that the pass answers are plausible, since they are those of times in range. Assumes nothing.
use mathlib.Core.Path.{refl}
use Rattle.std.proofs.lemmas.Result.{err_from_is_err_and}
use Rattle.limit.specs.Answer.{moments_meaning}
use Rattle.limit.specs.Sums.{sums_of}
use Rattle.limit.specs.Limit.{moments_of_times}
use Rattle.limit.proofs.Gathered.{gathered_within, gathered_outside}
use Rattle.limit.proofs.Plausible.{times_plausible}
use Rattle.limit.proofs.moments_of_times.Goals as goal

pub returns-in_err-known : goal.returns-in_err-known
unfolding moments_meaning moments_of_times
returns-in_err-known c =
    let p = err_from_is_err_and c.from_residual.result c.from_residual.ensures.1 in
    rw (p.1, p.2, c.in_err-known.ensures.0, c.in_err-known.ensures.1)

pub returns-in_err-gather : goal.returns-in_err-gather
unfolding moments_meaning moments_of_times
returns-in_err-gather c =
    let p = err_from_is_err_and c.from_residual-in_err-gather.result c.from_residual-in_err-gather.ensures.1 in
    let g = gathered_outside _ _ c.in_err-gather.ensures _ refl in
    rw (p.1, p.2, c.in_ok-known.ensures.0, g.0, g.1)

pub moments-requires : goal.moments-requires
moments-requires c = let g = gathered_within _ _ c.in_ok-gather.ensures _ refl in rw g.sums (times_plausible _ g.inside)

pub returns : goal.returns
unfolding moments_meaning moments_of_times sums_of
returns c =
    let g = gathered_within _ _ c.in_ok-gather.ensures _ refl in
    rw (c.in_ok-known.ensures.0, g.inside, c.moments.ensures, c.in_ok-known.ensures.1, g.sums)
