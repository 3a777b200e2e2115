-- `put_unknown` puts words, number and line end one behind another.
-- Assumes nothing.
use Rattle.journal_listing.proofs.Putting.{put_put}
use Rattle.command_trial.specs.Text.{word_unknown, unknown_text}
use Rattle.command_trial.proofs.text.put_unknown.Goals as goal

pub returns : goal.returns
unfolding unknown_text word_unknown
returns c = put_put _ _ _ _ _ _ _ _ (put_put _ _ _ _ _ _ _ _ c.put-p.ensures c.put_decimal-q.ensures) c.put.ensures
