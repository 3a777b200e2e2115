-- `put_bits` puts a space and the digits.
-- Assumes nothing.
use mathlib.Core.Path.{ap}
use Prim.Native.Nat.{ℕ}
use mathlib.Core.List.{List, ◌∷◌}
use Rattle.journal_spec.specs.Log.{space}
use Rattle.journal_listing.proofs.Putting.{put_put, put_as}
use Rattle.journal_listing.proofs.text.put_bits.Goals as goal

pub returns : goal.returns
returns c =
    put_as _ _ _ _ _ _ (ap (λ (x : List ℕ). space ∷ x) c.hex_of-digits.ensures)
    (put_put _ _ _ _ _ _ _ _ c.put-p.ensures c.put.ensures)
