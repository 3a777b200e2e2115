-- `put_chance` puts its parts one behind another.
-- Assumes nothing.
use Rattle.journal_listing.proofs.Putting.{put_put}
use Rattle.command_trial.specs.Text.{word_over, word_million, chance_text}
use Rattle.command_trial.proofs.text.put_chance.Goals as goal

pub returns : goal.returns
unfolding chance_text word_over word_million
returns c =
    let two = put_put _ _ _ _ _ _ _ _ c.put-p.ensures c.put_decimal-q.ensures in
    let three = put_put _ _ _ _ _ _ _ _ two c.put-r.ensures in
    put_put _ _ _ _ _ _ _ _ (put_put _ _ _ _ _ _ _ _ three c.put_decimal-s.ensures) c.put_mark.ensures
