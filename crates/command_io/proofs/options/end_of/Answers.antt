-- `end_of` asks its rows one after another.
-- Assumes nothing.
use Rattle.command_io.specs.Options.{end_of}
use Rattle.command_io.proofs.Rows.{or_else, else_row}
use Rattle.command_io.proofs.options.end_of.Goals as goal

pub returns : goal.returns
unfolding end_of
returns c =
    rw (
      c.unwrap_or.ensures,
      c.or-2.ensures,
      c.or.ensures,
      c.row.ensures,
      c.row-2.ensures,
      c.row-3.ensures,
      c.dash_of.ensures,
    )
    (simp (or_else, else_row))
