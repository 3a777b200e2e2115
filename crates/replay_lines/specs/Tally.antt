-- The tally of a replay: answers compared, answers that differ, malformed lines.
-- Assumes nothing.
use Rattle.std.specs.Prelude.{Bool, cond}
use Rattle.replay_lines.specs.Lines.{one_more}
use Rattle.replay_lines.specs.declared.tally.Tally.{Tally}

-- one answer more, the same as expected or not
unfoldable pub compared_more : Tally → Bool → Tally
compared_more t same =
    record { compared = one_more t.compared; differ = cond same t.differ (one_more t.differ); malformed = t.malformed }

-- one malformed line more
unfoldable pub malformed_more : Tally → Tally
malformed_more t = record { compared = t.compared; differ = t.differ; malformed = one_more t.malformed }
