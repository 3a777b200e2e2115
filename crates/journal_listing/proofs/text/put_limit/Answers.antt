-- `put_limit` puts four texts one behind another.
-- Assumes nothing.
use mathlib.Core.Path.{ap, ◌∙◌}
use Prim.Native.Nat.{ℕ}
use mathlib.Core.List.{List, [], ◌∷◌, ◌++◌, append_assoc}
use Rattle.text_digits.specs.Hex.{decimal_digits}
use Rattle.journal_spec.specs.Log.{space}
use Rattle.journal_listing.specs.Listing.{quoted_limit}
use Rattle.journal_listing.proofs.Putting.{put_put, put_as}
use Rattle.journal_listing.proofs.text.put_limit.Goals as goal

pub returns : goal.returns
unfolding quoted_limit
returns c =
    let a = c.args in
    let spaced = put_put _ _ _ _ _ _ _ _ c.put-p.ensures c.put_decimal-q.ensures in
    let parted = put_put _ _ _ _ _ _ _ _ spaced c.put-r.ensures in
    put_as _ _ _ _ _ _
    (append_assoc (space ∷ decimal_digits a.chance) (0x3a ∷ []) c.hex_of-digits.result
    ∙ ap (λ (x : List ℕ). space ∷ (decimal_digits a.chance ++ (0x3a ∷ x))) c.hex_of-digits.ensures)
    (put_put _ _ _ _ _ _ _ _ parted c.put.ensures)
