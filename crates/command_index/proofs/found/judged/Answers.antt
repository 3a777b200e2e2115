-- `judged` goes by what the scan of the record alone answers.
-- Assumes nothing.
use Rattle.std.proofs.Common.{arith}
use Rattle.journal.specs.Handed.{as_rule}
use Rattle.command_index.specs.Found.{found_meaning}
use Rattle.command_index.proofs.Looking.{judged_whole, judged_torn, judged_damaged, fault_inside}
use Rattle.command_index.proofs.found.judged.Goals as goal

pub overflow_add-result : goal.overflow_add-result
unfolding as_rule
overflow_add-result c =
    let inside = fault_inside 0 _ _ c.scan_by.ensures _ c.in-Damaged.is in
    omega (arith, inside)

pub returns-in-Whole : goal.returns-in-Whole
unfolding as_rule found_meaning
returns-in-Whole c = judged_whole _ _ _ c.scan_by.ensures _ _ c.in-Whole.is

pub returns-in-Torn : goal.returns-in-Torn
unfolding as_rule found_meaning
returns-in-Torn c = judged_torn _ _ _ c.scan_by.ensures _ _ c.in-Torn.is

pub returns-in-Damaged : goal.returns-in-Damaged
unfolding as_rule found_meaning
returns-in-Damaged c = judged_damaged _ _ _ c.scan_by.ensures _ c.in-Damaged.is
