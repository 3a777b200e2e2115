-- `put_head` puts name, word and number one behind another.
-- Assumes nothing.
use Rattle.journal_listing.proofs.Putting.{put_put}
use Rattle.command_trial.specs.Text.{word_links, head_text}
use Rattle.command_trial.proofs.text.put_head.Goals as goal

pub returns : goal.returns
unfolding head_text word_links
returns c = put_put _ _ _ _ _ _ _ _ (put_put _ _ _ _ _ _ _ _ c.put-p.ensures c.put-q.ensures) c.put_decimal.ensures
