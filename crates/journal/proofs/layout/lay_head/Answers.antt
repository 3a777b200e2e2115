-- `lay_head` lays the form and then the day.
-- Assumes nothing.
use Rattle.text_digits.proofs.Putting.{put_put}
use Rattle.journal.proofs.layout.lay_head.Goals as goal

pub returns : goal.returns
returns c = put_put _ _ _ _ _ _ _ _ c.lay_number-of_form.ensures c.lay_number.ensures
