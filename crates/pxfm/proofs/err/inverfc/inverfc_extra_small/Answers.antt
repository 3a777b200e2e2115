-- `inverfc_extra_small`: the logarithm asks what is required here; the equations of its calls rewrite the result to the definition's,
-- in each branch. Assumes nothing.
use Rattle.pxfm.specs.Inverfc.{asymptotic, inverfc_extra_small}
use Rattle.pxfm.proofs.err.inverfc.inverfc_extra_small.Goals as goal

pub returns-then-x : goal.returns-then-x
unfolding asymptotic inverfc_extra_small
returns-then-x c =
    rw (
      c.inverf_asympt_small.ensures,
      c.if-x.true,
      c.recip-rz.ensures,
      c.zeta_sqrt-root.ensures,
      c.fast_log_d_to_dd.ensures,
    )

pub returns : goal.returns
unfolding asymptotic inverfc_extra_small
returns c =
    rw (
      c.inverf_asympt_long.ensures,
      c.if-x.false,
      c.recip-rz.ensures,
      c.zeta_sqrt-root.ensures,
      c.fast_log_d_to_dd.ensures,
    )
