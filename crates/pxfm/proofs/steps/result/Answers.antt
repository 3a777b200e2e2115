-- `result`: the arm with number k calls the function whose definition stands at k in the list `results`, and its equations rewrite the result.
-- Assumes nothing.
use Rattle.std.proofs.Common.{ap}
use Rattle.log_tables.proofs.Arms.{missed_le, past_end}
use Rattle.pxfm.specs.DoubleDouble.{nan_pair}
use Rattle.pxfm.specs.Steps.{patterns_of, results, result_of}
use Rattle.pxfm.proofs.steps.result.Goals as goal

-- The arms of `div` and `quick_mult`, by name, so that a wrong number shows here.
pub returns-in-8 : goal.returns-in-8
unfolding results result_of
returns-in-8 c = rw (c.patterns-in-8.ensures, c.div.ensures, c.in-8.is)

pub returns-in-11 : goal.returns-in-11
unfolding results result_of
returns-in-11 c = rw (c.patterns-in-11.ensures, c.quick_mult.ensures, c.in-11.is)

pub returns-in-0 : goal.returns-in-0
unfolding results result_of
returns-in-0 c = rw (c.patterns.ensures, c.split.ensures, c.in-0.is)

pub returns-in-1 : goal.returns-in-1
unfolding results result_of
returns-in-1 c = rw (c.patterns-in-1.ensures, c.from_exact_mult.ensures, c.in-1.is)

pub returns-in-2 : goal.returns-in-2
unfolding results result_of
returns-in-2 c = rw (c.patterns-in-2.ensures, c.from_exact_add.ensures, c.in-2.is)

pub returns-in-3 : goal.returns-in-3
unfolding results result_of
returns-in-3 c = rw (c.patterns-in-3.ensures, c.from_full_exact_add.ensures, c.in-3.is)

pub returns-in-4 : goal.returns-in-4
unfolding results result_of
returns-in-4 c = rw (c.patterns-in-4.ensures, c.from_full_exact_sub.ensures, c.in-4.is)

pub returns-in-5 : goal.returns-in-5
unfolding results result_of
returns-in-5 c = rw (c.patterns-in-5.ensures, c.fast_sqrt.ensures, c.in-5.is)

pub returns-in-6 : goal.returns-in-6
unfolding results result_of
returns-in-6 c = rw (c.patterns-in-6.ensures, c.mul_add_f64.ensures, c.in-6.is)

pub returns-in-7 : goal.returns-in-7
unfolding results result_of
returns-in-7 c = rw (c.patterns-in-7.ensures, c.recip.ensures, c.in-7.is)

pub returns-in-9 : goal.returns-in-9
unfolding results result_of
returns-in-9 c = rw (c.patterns-in-9.ensures, c.mul_f64_add.ensures, c.in-9.is)

pub returns-in-10 : goal.returns-in-10
unfolding results result_of
returns-in-10 c = rw (c.patterns-in-10.ensures, c.mul_add.ensures, c.in-10.is)

pub returns-in-12 : goal.returns-in-12
unfolding results result_of
returns-in-12 c = rw (c.patterns-in-12.ensures, c.quick_mult_f64.ensures, c.in-12.is)

pub returns-in-13 : goal.returns-in-13
unfolding results result_of
returns-in-13 c = rw (c.patterns-in-13.ensures, c.full_add_f64.ensures, c.in-13.is)

pub returns-in-14 : goal.returns-in-14
unfolding results result_of
returns-in-14 c = rw (c.patterns-in-14.ensures, c.f64_add.ensures, c.in-14.is)

pub returns-in-15 : goal.returns-in-15
unfolding results result_of
returns-in-15 c = rw (c.patterns-in-15.ensures, c.neg.ensures, c.in-15.is)

pub returns-in-16 : goal.returns-in-16
unfolding results result_of
returns-in-16 c = rw (c.patterns-in-16.ensures, c.single.ensures, c.to_f64.ensures, c.in-16.is)

pub returns-in-17 : goal.returns-in-17
unfolding results result_of
returns-in-17 c = rw (c.patterns-in-17.ensures, c.single-in-17.ensures, c.f_fmla.ensures, c.in-17.is)

pub returns-in-18 : goal.returns-in-18
unfolding results result_of
returns-in-18 c = rw (c.patterns-in-18.ensures, c.single-in-18.ensures, c.dd_fmla.ensures, c.in-18.is)

pub returns-in-19 : goal.returns-in-19
unfolding results result_of
returns-in-19 c = rw (c.patterns-in-19.ensures, c.log_poly_1.ensures, c.in-19.is)

pub returns-in-20 : goal.returns-in-20
unfolding results result_of
returns-in-20 c = rw (c.patterns-in-20.ensures, c.single-in-20.ensures, c.f_polyeval4.ensures, c.in-20.is)

pub returns-in-21 : goal.returns-in-21
unfolding results result_of
returns-in-21 c = rw (c.patterns-in-21.ensures, c.single-in-21.ensures, c.f_polyeval5.ensures, c.in-21.is)

pub returns-in-22 : goal.returns-in-22
unfolding results result_of
returns-in-22 c = rw (c.patterns-in-22.ensures, c.log_dd.ensures, c.in-22.is)

pub returns-in-23 : goal.returns-in-23
unfolding results result_of
returns-in-23 c = rw (c.patterns-in-23.ensures, c.log_d_to_dd.ensures, c.in-23.is)

pub returns-in-24 : goal.returns-in-24
unfolding results result_of
returns-in-24 c = rw (c.patterns-in-24.ensures, c.inverf_0p06_to_0p75.ensures, c.in-24.is)

pub returns-in-25 : goal.returns-in-25
unfolding results result_of
returns-in-25 c = rw (c.patterns-in-25.ensures, c.inverf_asympt_small.ensures, c.in-25.is)

pub returns-in-26 : goal.returns-in-26
unfolding results result_of
returns-in-26 c = rw (c.patterns-in-26.ensures, c.inverf_asympt_long.ensures, c.in-26.is)

pub returns-in-27 : goal.returns-in-27
unfolding results result_of
returns-in-27 c = rw (c.patterns-in-27.ensures, c.core.ensures, c.in-27.is)

pub returns-in_default : goal.returns-in_default
unfolding results result_of
returns-in_default c =
    rw (c.patterns-in_default.ensures, c.nan_pair.ensures)
    (ap patterns_of (past_end nan_pair (results _ _ _ _ _ _) _ (missed_le 28 _ c.in_default.in_default-own.rest)))
