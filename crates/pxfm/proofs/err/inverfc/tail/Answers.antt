-- `tail`: that the logarithm's argument is positive and finite is the law `log_argument`, from the two requirements;
-- the equations of its calls rewrite the result to the definition's, in each branch. Assumes nothing.
use Rattle.std.proofs.Common.{rules}
use Rattle.pxfm.specs.Inverfc.{asymptotic, tail_of}
use Rattle.pxfm.proofs.Argument.{log_argument}
use Rattle.pxfm.proofs.err.inverfc.tail.Goals as goal

pub fast_log_dd-requires : goal.fast_log_dd-requires
fast_log_dd-requires c =
    let h = log_argument c.args.x (search rules) c.requires.one_value c.requires.three_quarters_value in
    record {
      hi_nonzero = rw (c.full_add_f64-q.ensures, c.neg.ensures) h.0;
      hi_bound = rw (c.full_add_f64-q.ensures, c.neg.ensures) h.1;
    }

pub returns-then-x : goal.returns-then-x
unfolding asymptotic tail_of
returns-then-x c =
    rw (
      c.inverf_asympt_small.ensures,
      c.if-x.true,
      c.recip-rz.ensures,
      c.zeta_sqrt-root.ensures,
      c.fast_log_dd.ensures,
      c.full_add_f64-q.ensures,
      c.neg.ensures,
    )

pub returns : goal.returns
unfolding asymptotic tail_of
returns c =
    rw (
      c.inverf_asympt_long.ensures,
      c.if-x.false,
      c.recip-rz.ensures,
      c.zeta_sqrt-root.ensures,
      c.fast_log_dd.ensures,
      c.full_add_f64-q.ensures,
      c.neg.ensures,
    )
