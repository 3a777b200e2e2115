-- `asked_of` asks its rows one after another.
-- Assumes nothing.
use Rattle.command_io.specs.Options.{asked_of}
use Rattle.command_io.proofs.Rows.{or_row}
use Rattle.command_io.proofs.options.asked_of.Goals as goal

pub returns : goal.returns
unfolding asked_of
returns c =
    rw (
      c.or-2.ensures,
      c.or.ensures,
      c.row.ensures,
      c.row-2.ensures,
      c.row-3.ensures,
    )
    (simp or_row)
