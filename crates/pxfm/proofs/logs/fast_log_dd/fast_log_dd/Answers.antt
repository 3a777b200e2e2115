-- `fast_log_dd`: `log_parts` asks of the high part what is required here; the equations of its calls rewrite the result to the definition's.
-- Assumes nothing.
use Rattle.pxfm.specs.FastLogDd.{fast_log_dd}
use Rattle.pxfm.proofs.logs.fast_log_dd.fast_log_dd.Goals as goal

pub returns : goal.returns
unfolding fast_log_dd
returns c =
    rw (
      c.f64_add.ensures,
      c.new.ensures,
      c.log_poly_1-p.ensures,
      c.log_parts-s.ensures,
      c.log_lo-l.ensures,
    )
