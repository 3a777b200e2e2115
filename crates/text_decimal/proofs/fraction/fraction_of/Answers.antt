-- `fraction_of` meets its contract: by the exponent's field, the pattern's fraction in lowest terms has the double's parts. Assumes nothing.
use Rattle.text_decimal.proofs.LowestTerms.{low_size, mid_size}
use Rattle.text_decimal.proofs.fraction.fraction_of.Goals as goal

pub returns-then-e-eq0 : goal.returns-then-e-eq0
returns-then-e-eq0 c = low_size _ _ _ c.if-e-eq0.true c.lowest.ensures

pub returns : goal.returns
returns c = mid_size _ _ _ c.requires c.if-e-eq0.false c.lowest-2.ensures
