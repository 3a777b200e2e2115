-- `fast_log_dd_inv_lo`: each arm asks the row of that number, which is computed to be the definition's; past the last row both have 0.
-- Assumes nothing.
use mathlib.Core.Path.{◌∙◌}
use native.Mathlib.Omega.{arith}
use lib.Dec.{lit<, lit≤}
use Rattle.log_tables.specs.LogTable.{fast_log_dd_inv_lo}
use Rattle.log_tables.proofs.Arms.{missed_le}
use Rattle.log_tables.proofs.CutRows.{row_entry, past_rows}
use Rattle.log_tables.proofs.fast_log_dd.fast_log_dd_inv_lo.Goals as goal

pub returns-in_default : goal.returns-in_default
unfolding fast_log_dd_inv_lo
returns-in_default c = past_rows 7 fast_log_dd_inv_lo c.args.i (lit≤ tt) (missed_le 7 _ c.in_default.in_default-own.rest)

pub bounds-t-0 : goal.bounds-t-0
unfolding fast_log_dd_inv_lo
bounds-t-0 c = lit< tt

pub entry-requires : goal.entry-requires
unfolding fast_log_dd_inv_lo
entry-requires c = omega arith

pub bounds-t-1 : goal.bounds-t-1
unfolding fast_log_dd_inv_lo
bounds-t-1 c = lit< tt

pub entry-requires-in-1 : goal.entry-requires-in-1
unfolding fast_log_dd_inv_lo
entry-requires-in-1 c = omega arith

pub bounds-t-2 : goal.bounds-t-2
unfolding fast_log_dd_inv_lo
bounds-t-2 c = lit< tt

pub entry-requires-in-2 : goal.entry-requires-in-2
unfolding fast_log_dd_inv_lo
entry-requires-in-2 c = omega arith

pub bounds-t-3 : goal.bounds-t-3
unfolding fast_log_dd_inv_lo
bounds-t-3 c = lit< tt

pub entry-requires-in-3 : goal.entry-requires-in-3
unfolding fast_log_dd_inv_lo
entry-requires-in-3 c = omega arith

pub bounds-t-4 : goal.bounds-t-4
unfolding fast_log_dd_inv_lo
bounds-t-4 c = lit< tt

pub entry-requires-in-4 : goal.entry-requires-in-4
unfolding fast_log_dd_inv_lo
entry-requires-in-4 c = omega arith

pub bounds-t-5 : goal.bounds-t-5
unfolding fast_log_dd_inv_lo
bounds-t-5 c = lit< tt

pub entry-requires-in-5 : goal.entry-requires-in-5
unfolding fast_log_dd_inv_lo
entry-requires-in-5 c = omega arith

pub bounds-t-6 : goal.bounds-t-6
unfolding fast_log_dd_inv_lo
bounds-t-6 c = lit< tt

pub entry-requires-in-6 : goal.entry-requires-in-6
unfolding fast_log_dd_inv_lo
entry-requires-in-6 c = omega arith

pub returns-in-0 : goal.returns-in-0
unfolding fast_log_dd_inv_lo
returns-in-0 c = c.entry.ensures ∙ row_entry fast_log_dd_inv_lo 0 _ c.in-0.is

pub returns-in-1 : goal.returns-in-1
unfolding fast_log_dd_inv_lo
returns-in-1 c = c.entry-in-1.ensures ∙ row_entry fast_log_dd_inv_lo 1 _ c.in-1.is

pub returns-in-2 : goal.returns-in-2
unfolding fast_log_dd_inv_lo
returns-in-2 c = c.entry-in-2.ensures ∙ row_entry fast_log_dd_inv_lo 2 _ c.in-2.is

pub returns-in-3 : goal.returns-in-3
unfolding fast_log_dd_inv_lo
returns-in-3 c = c.entry-in-3.ensures ∙ row_entry fast_log_dd_inv_lo 3 _ c.in-3.is

pub returns-in-4 : goal.returns-in-4
unfolding fast_log_dd_inv_lo
returns-in-4 c = c.entry-in-4.ensures ∙ row_entry fast_log_dd_inv_lo 4 _ c.in-4.is

pub returns-in-5 : goal.returns-in-5
unfolding fast_log_dd_inv_lo
returns-in-5 c = c.entry-in-5.ensures ∙ row_entry fast_log_dd_inv_lo 5 _ c.in-5.is

pub returns-in-6 : goal.returns-in-6
unfolding fast_log_dd_inv_lo
returns-in-6 c = c.entry-in-6.ensures ∙ row_entry fast_log_dd_inv_lo 6 _ c.in-6.is
