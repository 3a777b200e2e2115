-- `state_line` asks for the next line of a listing of which no record is left.
-- Assumes nothing.
use Rattle.text_digits.proofs.Putting.{put_as}
use Rattle.command_list.proofs.EndState.{state_text}
use Rattle.command_list.proofs.state.state_line.Goals as goal

pub returns : goal.returns
returns c = put_as _ _ _ _ _ _ (state_text _ _) c.next_line.ensures.bytes
