-- `put_shown` shows one byte after another. The invariant: what stands in the line and what the rest of the text gives are the whole.
-- Assumes nothing.
use Rattle.std.proofs.Common.{◌≡◌, length}
use Rattle.command_io.proofs.Showing.{Showing}
use Rattle.command_io.proofs.shown.put_shown.Given as goal

abbrev pub invariant-loop-c : goal.invariant-loop-c
invariant-loop-c l = (length l.line ≡ length l.initial.line) × Showing l.initial.line l.place l.text l.line l.at l.c-index
