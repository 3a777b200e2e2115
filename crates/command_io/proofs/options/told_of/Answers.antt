-- `told_of` asks its rows one after another.
-- Assumes nothing.
use Rattle.command_io.specs.Options.{told_of}
use Rattle.command_io.proofs.Rows.{or_row}
use Rattle.command_io.proofs.options.told_of.Goals as goal

pub returns : goal.returns
unfolding told_of
returns c =
    rw (
      c.or-7.ensures,
      c.or-6.ensures,
      c.or-5.ensures,
      c.or-4.ensures,
      c.or-3.ensures,
      c.or-2.ensures,
      c.or.ensures,
      c.row.ensures,
      c.row-2.ensures,
      c.row-3.ensures,
      c.row-4.ensures,
      c.row-5.ensures,
      c.row-6.ensures,
      c.row-7.ensures,
      c.asked_of.ensures,
    )
    (simp or_row)
