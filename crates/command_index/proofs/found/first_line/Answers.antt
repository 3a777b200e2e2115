-- `first_line` starts a listing and asks for a line.
-- Assumes nothing.
use Rattle.journal.specs.Handed.{as_rule}
use Rattle.journal_listing.proofs.Putting.{put_as}
use Rattle.command_index.proofs.Looking.{first_text}
use Rattle.command_index.proofs.found.first_line.Goals as goal

pub returns : goal.returns
unfolding as_rule
returns c = put_as _ _ _ _ _ _ (first_text _ _ c.start-cursor.ensures) c.next_line.ensures.bytes
