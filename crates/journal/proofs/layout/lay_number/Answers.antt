-- `lay_number` puts the first of the number's eight bytes.
-- Assumes nothing.
use mathlib.Core.Path.{ap, ◌∙◌}
use lib.ListN.{take}
use Rattle.text_digits.proofs.Putting.{put_as}
use Rattle.journal.proofs.Laying.{eight_bytes, take_bytes}
use Rattle.journal.proofs.layout.lay_number.Goals as goal

pub returns : goal.returns
returns c =
    put_as _ _ _ _ _ _ (ap (take c.args.w) (c.to_le_bytes.ensures ∙ eight_bytes _) ∙ take_bytes c.args.w 8 c.args.x c.requires)
    c.put.ensures
