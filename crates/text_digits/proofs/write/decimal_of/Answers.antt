-- `text_digits::write::decimal_of` meets its contract: the part that is lent is as long as the digits, and comes back filled with
-- them. Assumes nothing.
use Prim.Native.Nat.{ℕ}
use lib.ListN.{replicate}
use lib.Seq.{length-take-le}
use Rattle.text_digits.specs.Hex.{decimal_of, decimal_digits}
use Rattle.text_digits.proofs.write.decimal_of.Goals as goal

pub returns-clause-value : goal.returns-clause-value
unfolding decimal_of decimal_digits
returns-clause-value c =
    let count = c.places-count in
    rw (c.decimal_into.ensures, length-take-le {A = ℕ} count.result (replicate 20 0) count.ensures.1, count.ensures.0)
