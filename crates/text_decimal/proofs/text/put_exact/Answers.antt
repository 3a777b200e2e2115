-- `put_exact` meets its contract: a dash beyond the range and beyond the places, and else the double's parts. Assumes nothing.
use Rattle.text_digits.proofs.Putting.{put_as}
use Rattle.text_decimal.proofs.Shown.{dash_range, dash_places, text_shown}
use Rattle.text_decimal.proofs.text.put_exact.Goals as goal

pub returns-then-b-ge-END : goal.returns-then-b-ge-END
returns-then-b-ge-END c = put_as _ _ _ _ _ _ (dash_range _ c.if-b-ge-END.true) c.put.ensures

pub returns-then-f-gt-MOST : goal.returns-then-f-gt-MOST
returns-then-f-gt-MOST c = put_as _ _ _ _ _ _ (dash_places _ _ _ c.fraction_of-f.ensures c.if-f-gt-MOST.true) c.put-then-f-gt-MOST.ensures

pub returns : goal.returns
returns c = put_as _ _ _ _ _ _ (text_shown _ _ _ c.if-b-ge-END.false c.fraction_of-f.ensures c.if-f-gt-MOST.false) c.put_signed.ensures
