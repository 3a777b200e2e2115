-- The exit status of a command: 0 done, 1 refused (declined, damaged, torn), 2 failed (usage, reading, writing).
-- Assumes nothing.
use Rattle.std.specs.Prelude.{ℕ, Bool, cond}
use Rattle.command_io.specs.declared.ending.Status.{Status}
use Rattle.command_io.specs.declared.ending.Status.TheVariants as S

abbrev pub status_number : Status → ℕ
status_number S.Done = 0
status_number S.Refused = 1
status_number S.Failed = 2

-- the status where all was written, and failed where not
abbrev pub if_written : Bool → Status → Status
if_written written s = cond written s S.Failed
