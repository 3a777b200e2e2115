-- `gather_lines` ends: each line leaves fewer records. Nothing has to hold from line to line.
-- Assumes nothing.
use Rattle.command_list.proofs.listing.gather_lines.Given as goal

abbrev pub invariant-loop-cursor : goal.invariant-loop-cursor
invariant-loop-cursor l = Unit {0}

abbrev pub decreases-loop-cursor : goal.decreases-loop-cursor
decreases-loop-cursor l = l.cursor.left
