-- The exit status of a journal's end state: done where it is whole, refused where it is torn or damaged.
-- Assumes nothing.
use Rattle.journal_spec.specs.Scan.{ScanResult, whole, torn, damaged}
use Rattle.command_io.specs.declared.ending.Status.{Status}
use Rattle.command_io.specs.declared.ending.Status.TheVariants as S

unfoldable pub end_status : ScanResult → Status
end_status (whole n committed) = S.Done
end_status (torn n committed) = S.Refused
end_status (damaged n p) = S.Refused
