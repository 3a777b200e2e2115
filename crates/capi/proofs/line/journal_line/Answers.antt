-- `journal_line` writes the next line of the cursor before line i.
-- Assumes nothing.
use Rattle.capi.proofs.line.journal_line.Goals as goal

pub returns : goal.returns
returns c = rw (← c.cursor_before-cursor.ensures) c.next_line-line.ensures.bytes
