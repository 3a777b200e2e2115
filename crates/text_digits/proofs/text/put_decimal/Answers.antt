-- `put_decimal` puts the digits that stand at the front of the array.
-- Assumes nothing.
use Rattle.text_digits.proofs.Putting.{put_as, decimal_text}
use Rattle.text_digits.proofs.text.put_decimal.Goals as goal

pub returns : goal.returns
returns c =
    let d = c.decimal_of-d in
    put_as _ _ _ _ _ _ (decimal_text _ d.result d.ensures.value) c.put.ensures
