-- `folder_end` meets its contract. The invariant: the bytes before those that were looked at give what all of the path gives.
-- Assumes nothing.
use Rattle.std.proofs.Common.{◌≡◌}
use Rattle.command_io.specs.Paths.{folder_within, folder_end}
use Rattle.command_io.proofs.path.folder_end.Given as goal

abbrev pub invariant-loop-i : goal.invariant-loop-i
invariant-loop-i l = folder_end l.path ≡ folder_within l.path l.i
