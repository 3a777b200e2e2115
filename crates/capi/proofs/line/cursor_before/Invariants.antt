-- `cursor_before` follows the listing line by line. Assumes nothing.
use Rattle.std.proofs.Common.{◌-◌}
use Rattle.journal_listing.specs.Lines.{position_of}
use Rattle.capi.proofs.LineAt.{Going}
use Rattle.capi.proofs.line.cursor_before.Given as goal

abbrev pub invariant-loop : goal.invariant-loop
invariant-loop l = Going l.i l.v (l.i - l.counter) (position_of l.cursor)
