-- `put_figures` puts the number of times, and mean and spread that `moments_in` answers.
-- Assumes nothing.
use mathlib.Core.Path.{ap, ◌∙◌}
use Rattle.text_digits.proofs.Putting.{put_put, put_as}
use Rattle.journal_listing.specs.Listing.{mean_bits, spread_bits}
use Rattle.journal_report.proofs.Slots.{figure_parts}
use Rattle.journal_report.proofs.scatter.put_figures.Goals as goal

pub returns : goal.returns
returns c =
    put_as _ _ _ _ _ _
    (figure_parts c.args.tabs c.args.at c.args.v.now c.args.s _ _ c.requires
    (c.mean_bits-mean.ensures ∙ ap mean_bits c.moments_in-worked.ensures)
    (c.spread_bits-spread.ensures ∙ ap spread_bits c.moments_in-worked.ensures))
    (put_put _ _ _ _ _ _ _ _ (put_put _ _ _ _ _ _ _ _ c.put_times-p.ensures c.put_near-q.ensures) c.put_near.ensures)
