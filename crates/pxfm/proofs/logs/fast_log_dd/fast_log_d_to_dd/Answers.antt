-- `fast_log_d_to_dd`: `log_parts` asks what is required here; the equations of its calls rewrite the result to the definition's.
-- Assumes nothing.
use Rattle.pxfm.specs.FastLogDd.{fast_log_dTo_dd}
use Rattle.pxfm.proofs.logs.fast_log_dd.fast_log_d_to_dd.Goals as goal

pub returns : goal.returns
unfolding fast_log_dTo_dd
returns c = rw (c.from_exact_add.ensures, c.f64_add-w.ensures, c.new.ensures, c.log_poly_1-p.ensures, c.log_parts-s.ensures)
